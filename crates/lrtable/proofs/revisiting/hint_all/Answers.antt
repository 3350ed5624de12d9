use Rattle.std.proofs.Common.{◌<◌, length, ap, ◌∙◌, arith, rules}
use Rattle.state_table.specs.ItemRows.{Item}
use Rattle.state_table.specs.CoreViews.{item_of}
use Rattle.state_table.proofs.CoreSteps.{map_at}
use Rattle.state_table.proofs.ItemSets.{nought}
use Rattle.lrtable.proofs.revisiting.hint_all.Goals as goal

pub index_mut-slot-requires : goal.index_mut-slot-requires
index_mut-slot-requires g c =
    let number = g.S.IndexStorage.number in
    let p = c.requires c.items.k nought c.items-test.true in
    let e = ap (λ (i : Item). i.production) (map_at (item_of number) c.args.items.now c.items.k c.index-items-k.result nought c.items-test.true c.index-items-k.is ∙ ap (item_of number) c.index-items-k.is) in
    let v = c.to_usize.ensures.value in
    let same = c.items.invariant in
    let lt : c.to_usize.result < length c.items.hints.items = omega (arith, p, e, v, same) in
    search rules
