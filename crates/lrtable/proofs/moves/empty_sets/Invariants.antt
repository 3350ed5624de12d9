use Rattle.lrtable.specs.MovedItems.{AreEmpty}
use Rattle.lrtable.proofs.moves.empty_sets.Given as goal

abbrev pub invariant-sets : goal.invariant-sets
invariant-sets g l = AreEmpty l.counter l.sets.items
