use Rattle.std.proofs.Common.{arith}
use Rattle.state_table.specs.Tables.{automaton_of}
use Rattle.lrpar.specs.Safety.{ItemFits}
use Rattle.lrpar.proofs.ItemLists.{below_none, below_more, each_item, item_here}
use Rattle.lrpar.proofs.parserdata.items.items_fit.Goals as goal

pub items-init : goal.items-init
items-init g c = λ x v e. below_none _ _

pub items-preserved : goal.items-preserved
items-preserved g c = λ x v e.
    let number = g.S.IndexStorage.number in
    below_more c.args.items.now (ItemFits c.args.grm.now.grammar (automaton_of x v) (number c.args.state.0)) c.items.index (number c.item_at.result.0.0) (number c.item_at.result.1.0) (c.items.invariant x v e) c.item_at.ensures.production c.item_at.ensures.dot (rw c.if-not-item_fits.false at (c.item_fits.ensures x v e))

pub returns-then-not-item_fits : goal.returns-then-not-item_fits
returns-then-not-item_fits g c = λ x v e all.
    let number = g.S.IndexStorage.number in
    let h = item_here c.args.items.now c.items.index (number c.item_at.result.0.0) (number c.item_at.result.1.0) (omega arith) c.item_at.ensures.production c.item_at.ensures.dot in
    (rw c.if-not-item_fits.true at (c.item_fits.ensures x v e)) (all (number c.item_at.result.0.0) (number c.item_at.result.1.0) h)

pub returns : goal.returns
returns g c = λ x v e p d h.
    let number = g.S.IndexStorage.number in
    each_item c.args.items.now (ItemFits c.args.grm.now.grammar (automaton_of x v) (number c.args.state.0)) c.items.index (omega arith) (c.items.invariant x v e) p d h
