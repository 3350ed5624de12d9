use Rattle.std.proofs.Common.{◌<◌, All}
use Rattle.cfgrammar_tests.proofs.numbers.longest_name.Given as goal

abbrev pub invariant-rules : goal.invariant-rules
invariant-rules g l =
    (goal.iterator-rules g).can_next l.ridx-iterator ×
    (goal.iterator-rules g).is_finite l.ridx-iterator ×
    All (λ p. p < l.grm.grammar.rules) l.ridx-iterator
