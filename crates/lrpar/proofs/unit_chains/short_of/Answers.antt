use Rattle.std.proofs.Common.{refl, arith}
use Rattle.lrpar.proofs.ChainRows.{short_told}
use Rattle.lrpar.proofs.unit_chains.short_of.Goals as goal

pub prods-init : goal.prods-init
prods-init g c = λ k i lt. absurd (omega (arith, lt))

pub short_with-found-requires : goal.short_with-found-requires
short_with-found-requires g c = c.requires _ (c.prods.index, c.prod_of_list.result, c.prod_of_list.ensures, refl)

pub prods-preserved : goal.prods-preserved
prods-preserved g c = c.short_with-found.ensures c.args.list.now c.prods.index c.prod_of_list.ensures c.prods.invariant

pub returns : goal.returns
returns g c = λ v q are. short_told g.S.IndexStorage.number c.args.grm.now.grammar c.args.list.now v q are c.prods.index c.prods.found (omega arith) c.prods.invariant
