use Rattle.std.proofs.Common.{arith}
use Rattle.lrpar.specs.Fitting.{GoesFrom}
use Rattle.lrpar.proofs.ItemLists.{below_none, below_more, each_item, item_here}
use Rattle.lrpar.proofs.parserdata.cells.begin_all.Goals as goal

pub items-init : goal.items-init
items-init g c = λ A. below_none _ _

pub begun_near-requires : goal.begun_near-requires
begun_near-requires g c =
    let number = g.S.IndexStorage.number in
    record { production = c.args.state.now.of_grammar (number c.item_at-pidx.result.0.0) (number c.item_at-pidx.result.1.0) (item_here c.args.state.now.items.now c.items.index (number c.item_at-pidx.result.0.0) (number c.item_at-pidx.result.1.0) (omega arith) c.item_at-pidx.ensures.production c.item_at-pidx.ensures.dot) }

pub items-preserved : goal.items-preserved
items-preserved g c = λ A.
    let number = g.S.IndexStorage.number in
    let here = rw c.in-Some.is at c.begun_near.ensures in
    below_more c.args.state.now.items.now (GoesFrom c.args.state.now.grm.now.grammar c.args.state.now.stable.now (number c.args.state.now.stidx.0) A) c.items.index (number c.item_at-pidx.result.0.0) (number c.item_at-pidx.result.1.0) (c.items.invariant A) c.item_at-pidx.ensures.production c.item_at-pidx.ensures.dot (here A)

pub returns : goal.returns
returns g c = λ _ A p d h.
    let number = g.S.IndexStorage.number in
    each_item c.args.state.now.items.now (GoesFrom c.args.state.now.grm.now.grammar c.args.state.now.stable.now (number c.args.state.now.stidx.0) A) c.items.index (omega arith) (c.items.invariant A) p d h
