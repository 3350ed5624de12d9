use Rattle.std.proofs.Common.{map, take}
use Rattle.cfg_numbered.specs.Value.{productions_of}
use Rattle.lrtable.specs.Closes.{AreFrontsOf}
use Rattle.lrtable.specs.Fronts.{front_of}
use Rattle.lrtable.proofs.openers.openers_of.Given as goal

abbrev pub invariant-prods : goal.invariant-prods
invariant-prods g l = AreFrontsOf l.grm.grammar (take l.k (productions_of l.grm.grammar (g.S.IndexStorage.number l.fn.ridx.0))) (map front_of l.openers.items)
