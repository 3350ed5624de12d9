use Rattle.lrtable.proofs.Clearing.{Emptied}
use Rattle.lrtable.proofs.rule_rows.RuleRows.clear_all.Given as goal

abbrev pub invariant-rules : goal.invariant-rules
invariant-rules l =
    goal.iterator-rules.can_next l.rule-iterator ×
    goal.iterator-rules.is_finite l.rule-iterator ×
    Emptied l.initial.self l.rules.bits l.rule-iterator l.self
