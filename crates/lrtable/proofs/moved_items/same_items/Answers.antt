use Rattle.std.proofs.Common.{◌≡◌, false, true, arith, sym, ap, ◌∙◌}
use Rattle.lrtable.specs.MovedItems.{moved_item}
use Rattle.state_table.specs.CoreViews.{item_of}
use Rattle.state_table.proofs.CoreSteps.{differ_at}
use Rattle.lrtable.proofs.moved_items.same_items.Goals as goal

pub returns-then-not-same_item : goal.returns-then-not-same_item
returns-then-not-same_item g c =
    let number = g.S.IndexStorage.number in
    let lt = c.each-test.true in (
      λ e. absurd (never e),
      λ e. absurd (differ_at (item_of number) (moved_item number) c.args.core.now c.args.moved.now c.each.i c.index-core-i.result c.index-moved-i.result lt (let n = c.if-core-moved.false in omega (arith, lt, n)) c.index-core-i.is c.index-moved-i.is (λ q. never (sym c.if-not-same_item.true ∙ c.same_item.ensures.1 (q ∙ ap (moved_item number) c.index-moved-i.is))) e),
    )
  where
    never : false ≡ true → ⊥
    never e = cc
