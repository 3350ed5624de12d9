use Rattle.lrtable.specs.Pruning.{AreNumbered}
use Rattle.lrtable.proofs.pruning.number_all.Given as goal

abbrev pub invariant-states : goal.invariant-states
invariant-states l = AreNumbered l.marked.bits l.number l.kept.items l.numbers.items
