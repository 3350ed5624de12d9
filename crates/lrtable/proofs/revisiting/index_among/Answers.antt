use Rattle.std.proofs.Common.{◌≡◌, inl, inr, false, true, get_or, ap, sym, ◌∙◌, arith}
use Rattle.std.proofs.lemmas.Bool.{cases_eq}
use Rattle.std.proofs.lemmas.List.{length-map}
use Rattle.state_table.specs.CoreViews.{item_of, items_of}
use Rattle.state_table.proofs.CoreSteps.{map_at}
use Rattle.lrtable.proofs.Revisits.{never_missed}
use Rattle.lrtable.proofs.revisiting.index_among.Goals as goal

never : false ≡ true → ⊥
never e = cc

pub each-preserved : goal.each-preserved
each-preserved g c = λ k d lt e. elim (cases_eq k c.each.k) [
  | inl q ↦
      (let at = map_at (item_of g.S.IndexStorage.number) c.args.items.now c.each.k c.index-items-k.result d c.each-test.true c.index-items-k.is in
      never (sym c.if-same_item.false ∙ c.same_item.ensures.1 (sym at ∙ (ap (λ n. get_or (items_of g.S.IndexStorage.number c.args.items.now) n d) (sym q) ∙ e))))
  | inr ne ↦ c.each.invariant k d (omega (arith, lt, ne)) e
]

pub returns : goal.returns
returns g c =
    let number = g.S.IndexStorage.number in
    let n = length-map c.args.items.now (item_of number) in
    let done = c.each-test.false in
    absurd (never_missed (items_of number c.args.items.now) (item_of number c.args.item.now) c.requires (λ k d lt. c.each.invariant k d (omega (arith, lt, n, done))))
