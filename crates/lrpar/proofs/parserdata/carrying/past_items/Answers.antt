use Rattle.std.proofs.Common.{◌≡◌, suc, sym, ◌∙◌, refl, arith}
use Rattle.lrpar.proofs.ItemLists.{item_here}
use Rattle.lrpar.proofs.CarriedItems.{past_skip, past_more, past_end, read_item}
use Rattle.lrpar.proofs.parserdata.carrying.past_items.Goals as goal

pub items-preserved-then-number-eq0 : goal.items-preserved-then-number-eq0
items-preserved-then-number-eq0 g c =
    let number = g.S.IndexStorage.number in
    past_skip number c.args.items.now c.items.past.items c.items.index (number c.item_at.result.0.0) (number c.item_at.result.1.0) c.items.invariant c.item_at.ensures.production c.item_at.ensures.dot (sym c.to_usize-number.ensures.value ∙ c.if-number-eq0.true)

pub items-preserved : goal.items-preserved
items-preserved g c =
    let number = g.S.IndexStorage.number in
    let item = item_here c.args.items.now c.items.index (number c.item_at.result.0.0) (number c.item_at.result.1.0) (omega arith) c.item_at.ensures.production c.item_at.ensures.dot in
    let less : number c.item_at.result.1.0 ≡ suc (number c.index_below.result) = omega (arith, c.index_below.ensures, c.to_usize-number.ensures.value, c.if-number-eq0.false) in
    let x = read_item c.item_at.result.0 c.index_below.result in
    rw c.in_ok-push.ensures.items (past_more number c.args.items.now c.items.past.items x c.items.index (number c.item_at.result.0.0) (number c.item_at.result.1.0) c.items.invariant c.item_at.ensures.production c.item_at.ensures.dot item refl less)

pub returns : goal.returns
returns g c = past_end g.S.IndexStorage.number c.args.items.now c.items.past.items c.items.index c.items.invariant (omega arith)
