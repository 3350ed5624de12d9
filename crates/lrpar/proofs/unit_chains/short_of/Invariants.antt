use Rattle.lrpar.specs.Reducing.{ShortIn}
use Rattle.lrpar.proofs.unit_chains.short_of.Given as goal

abbrev pub invariant-prods : goal.invariant-prods
invariant-prods g l = ShortIn g.S.IndexStorage.number l.grm.grammar l.list l.index l.found
