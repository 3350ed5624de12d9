use Rattle.std.proofs.Common.{arith}
use Rattle.cfg_numbered.specs.Symbols.{sym_of}
use Rattle.lrpar.proofs.CarriedItems.{carried_more, carried_all, not_carried}
use Rattle.lrpar.proofs.parserdata.carrying.carries.Goals as goal

pub items-preserved : goal.items-preserved
items-preserved g c =
    let number = g.S.IndexStorage.number in
    carried_more number c.args.grm.now.grammar c.args.from.now (sym_of number c.args.symbol) c.args.past.now c.items.index c.past_at.result c.items.invariant c.past_at.ensures (rw c.if-not-has_item_by.false at c.has_item_by.ensures, rw c.if-not-is_next.false at c.is_next.ensures)

pub returns-then-not-has_item_by : goal.returns-then-not-has_item_by
returns-then-not-has_item_by g c = λ to past.
    let number = g.S.IndexStorage.number in
    not_carried number c.args.grm.now.grammar c.args.from.now (sym_of number c.args.symbol) c.args.past.now to c.items.index c.past_at.result past c.past_at.ensures (λ h. (rw c.if-not-has_item_by.true at c.has_item_by.ensures) h.0)

pub returns-then-not-is_next : goal.returns-then-not-is_next
returns-then-not-is_next g c = λ to past.
    let number = g.S.IndexStorage.number in
    not_carried number c.args.grm.now.grammar c.args.from.now (sym_of number c.args.symbol) c.args.past.now to c.items.index c.past_at.result past c.past_at.ensures (λ h. (rw c.if-not-is_next.true at c.is_next.ensures) h.1)

pub returns : goal.returns
returns g c = λ to past.
    let number = g.S.IndexStorage.number in
    carried_all number c.args.grm.now.grammar c.args.from.now (sym_of number c.args.symbol) c.args.past.now to c.items.index past c.items.invariant (omega arith)
