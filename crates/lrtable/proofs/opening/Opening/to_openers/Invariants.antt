use Rattle.std.specs.Prelude.{map}
use Rattle.lrtable.specs.Fronts.{front_of}
use Rattle.lrtable.proofs.Reaching.{ListsSoFar}
use Rattle.lrtable.proofs.opening.Opening.to_openers.Given as goal

abbrev pub invariant-rules : goal.invariant-rules
invariant-rules l =
    goal.iterator-rules.can_next l.rule-iterator ×
    goal.iterator-rules.is_finite l.rule-iterator ×
    ListsSoFar l.self l.passed.bits l.rule-iterator (map front_of l.list.items)
