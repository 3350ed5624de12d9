use Rattle.lrtable.proofs.Opened.{OpensLeft}
use Rattle.lrtable.proofs.closures.open_rules.Given as goal

abbrev pub invariant-rules : goal.invariant-rules
invariant-rules g l =
    (goal.iterator-rules g).can_next l.number-iterator ×
    (goal.iterator-rules g).is_finite l.number-iterator ×
    OpensLeft g.S.IndexStorage.number l.grm.grammar l.opening l.number-iterator l.initial.set l.set
