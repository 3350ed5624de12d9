use Rattle.std.proofs.Common.{arith}
use Rattle.lrpar.specs.Completing.{ItemStands}
use Rattle.lrpar.proofs.ItemLists.{below_none, below_more, each_item, item_here}
use Rattle.lrpar.proofs.parserdata.complete.state_stands.Goals as goal

pub items-init : goal.items-init
items-init g c = below_none _ _

pub item_stands-requires-clause-production : goal.item_stands-requires-clause-production
item_stands-requires-clause-production g c =
    let number = g.S.IndexStorage.number in
    c.requires.items (number c.item_at.result.0.0) (number c.item_at.result.1.0) (item_here c.args.items.now c.items.index (number c.item_at.result.0.0) (number c.item_at.result.1.0) (omega arith) c.item_at.ensures.production c.item_at.ensures.dot)

pub items-preserved : goal.items-preserved
items-preserved g c =
    let number = g.S.IndexStorage.number in
    below_more c.args.items.now (ItemStands c.args.machine.now.grm.now.grammar c.args.machine.now.stable.now c.args.items.now (number c.args.state.0)) c.items.index (number c.item_at.result.0.0) (number c.item_at.result.1.0) c.items.invariant c.item_at.ensures.production c.item_at.ensures.dot (rw c.if-not-item_stands.false at c.item_stands.ensures)

pub returns-then-not-item_stands : goal.returns-then-not-item_stands
returns-then-not-item_stands g c = λ all.
    let number = g.S.IndexStorage.number in
    let h = item_here c.args.items.now c.items.index (number c.item_at.result.0.0) (number c.item_at.result.1.0) (omega arith) c.item_at.ensures.production c.item_at.ensures.dot in
    (rw c.if-not-item_stands.true at c.item_stands.ensures) (all (number c.item_at.result.0.0) (number c.item_at.result.1.0) h)

pub returns : goal.returns
returns g c = λ p d h.
    let number = g.S.IndexStorage.number in
    each_item c.args.items.now (ItemStands c.args.machine.now.grm.now.grammar c.args.machine.now.stable.now c.args.items.now (number c.args.state.0)) c.items.index (omega arith) c.items.invariant p d h
