use Rattle.std.proofs.Common.{◌≡◌, ◌∙◌, false, true, ◌+◌, ◌-◌, ◌<◌, length, sym, ap, subst, arith}
use Rattle.std.proofs.lemmas.List.{length-map}
use Rattle.state_table.specs.ItemRows.{ItemBefore}
use Rattle.lrtable.specs.MovedItems.{moved_item, moved_items}
use Rattle.state_table.specs.CoreViews.{item_of}
use Rattle.state_table.proofs.CoreSteps.{map_at, below_last, none_more}
use Rattle.lrtable.proofs.moved_items.index_of.Goals as goal

differ : false ≡ true → ⊥
differ e = cc

pub returns-then-comes_before : goal.returns-then-comes_before
returns-then-comes_before g c =
    let number = g.S.IndexStorage.number in
    let xs = c.args.items.now in
    let items = moved_items number xs in
    let i = item_of number c.args.item.now in
    let last = length xs - 1 - c.back.n in
    let test = c.back-test.true in
    let within : last < length xs = omega (arith, test) in
    let n = length-map xs (moved_item number) in
    let x = c.index-items-last.result in
    let at = map_at (moved_item number) xs last x i within c.index-items-last.is ∙ ap (moved_item number) c.index-items-last.is in
    record {
      within = omega (arith, within, n);
      below = below_last items i c.requires last i (omega (arith, within, n)) (subst (λ y. ItemBefore y i) (sym at) (c.comes_before.ensures.0 c.if-comes_before.true));
      above = λ k d ge lt b. c.back.invariant k d (omega (arith, ge, test)) (omega (arith, lt, n)) b;
    }

pub back-preserved : goal.back-preserved
back-preserved g c =
    let number = g.S.IndexStorage.number in
    let xs = c.args.items.now in
    let items = moved_items number xs in
    let i = item_of number c.args.item.now in
    let last = length xs - 1 - c.back.n in
    let test = c.back-test.true in
    let within : last < length xs = omega (arith, test) in
    let n = length-map xs (moved_item number) in
    let x = c.index-items-last.result in
    let at = map_at (moved_item number) xs last x i within c.index-items-last.is ∙ ap (moved_item number) c.index-items-last.is in
    let e : last + 1 + c.back.n ≡ length items = omega (arith, test, n) in
    λ k d le lt b. none_more items i c.back.n (λ m d' le' lt' b'. c.back.invariant m d' (omega (arith, le', n)) (omega (arith, lt', n)) b') last i e
    (λ y. differ (sym c.if-comes_before.false ∙ c.comes_before.ensures.1 (subst (λ z. ItemBefore z i) at y))) k d (omega (arith, le, n)) (omega (arith, lt, n)) b

pub returns : goal.returns
returns g c =
    let number = g.S.IndexStorage.number in
    let n = length-map c.args.items.now (moved_item number) in
    let done = c.back-test.false in
    record {
      within = omega arith;
      below = λ j d lt. absurd (omega (arith, lt));
      above = λ k d ge lt b. c.back.invariant k d (omega (arith, done)) (omega (arith, lt, n)) b;
    }
