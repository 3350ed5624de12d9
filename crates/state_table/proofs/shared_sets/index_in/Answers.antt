use Rattle.std.proofs.Common.{◌≡◌, ◌∙◌, false, true, ◌+◌, ◌-◌, ◌<◌, length, sym, subst, arith}
use Rattle.std.proofs.lemmas.List.{length-map, get_or-map}
use Rattle.state_table.specs.ItemRows.{ItemBefore}
use Rattle.state_table.specs.Sharing.{keys_of}
use Rattle.state_table.specs.CoreViews.{item_of}
use Rattle.state_table.specs.declared.shared_sets.SharedItem.{SharedItem}
use Rattle.state_table.proofs.CoreSteps.{below_last, none_more}
use Rattle.state_table.proofs.shared_sets.index_in.Goals as goal

differ : false ≡ true → ⊥
differ e = cc

pub returns-then-comes_before-clause-below : goal.returns-then-comes_before-clause-below
returns-then-comes_before-clause-below g c =
    let number = g.S.IndexStorage.number in
    let xs = c.args.entries.now in
    let items = keys_of number xs in
    let i = item_of number c.args.item.now in
    let last = length xs - 1 - c.back.n in
    let test = c.back-test.true in
    let within : last < length xs = omega (arith, test) in
    let n = length-map xs (λ (e : SharedItem g.row.S.Denot). item_of number e.item) in
    let x = c.index-entries-last.result in
    let at = get_or-map (λ (e : SharedItem g.row.S.Denot). item_of number e.item) xs last x i within in
    below_last items i c.requires last i (omega (arith, within, n)) (subst (λ y. ItemBefore y i) (sym at) (c.comes_before.ensures.0 c.if-comes_before.true))

pub back-preserved : goal.back-preserved
back-preserved g c =
    let number = g.S.IndexStorage.number in
    let xs = c.args.entries.now in
    let items = keys_of number xs in
    let i = item_of number c.args.item.now in
    let last = length xs - 1 - c.back.n in
    let test = c.back-test.true in
    let within : last < length xs = omega (arith, test) in
    let n = length-map xs (λ (e : SharedItem g.row.S.Denot). item_of number e.item) in
    let x = c.index-entries-last.result in
    let at = get_or-map (λ (e : SharedItem g.row.S.Denot). item_of number e.item) xs last x i within in
    let e : last + 1 + c.back.n ≡ length items = omega (arith, test, n) in
    λ k d le lt b. none_more items i c.back.n (λ m d' le' lt' b'. c.back.invariant m d' (omega (arith, le', n)) (omega (arith, lt', n)) b') last i e
    (λ y. differ (sym c.if-comes_before.false ∙ c.comes_before.ensures.1 (subst (λ z. ItemBefore z i) at y))) k d (omega (arith, le, n)) (omega (arith, lt, n)) b
