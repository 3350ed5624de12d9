use Rattle.std.proofs.Common.{◌≡◌, false, true, arith, sym, ◌∙◌}
use Rattle.state_table.specs.CoreViews.{item_of}
use Rattle.state_table.proofs.CoreSteps.{differ_at}
use Rattle.state_table.proofs.cores.same_items.Goals as goal

pub returns-then-not-same_item : goal.returns-then-not-same_item
returns-then-not-same_item g c =
    let lt = c.each-test.true in
    (λ e. absurd (never e), λ e. absurd (differ_at (item_of g.S.IndexStorage.number) (item_of g.S.IndexStorage.number) c.args.a.now c.args.b.now c.each.i c.index-a-i.result c.index-b-i.result lt (let n = c.if-a-b.false in omega (arith, lt, n)) c.index-a-i.is c.index-b-i.is (λ q. never (sym c.if-not-same_item.true ∙ c.same_item.ensures.1 q)) e))
  where
    never : false ≡ true → ⊥
    never e = cc
