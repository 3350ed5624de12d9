-- Cores that become item sets with their own sets of lookaheads.
use Rattle.std.proofs.Common.{◌≡◌, ℕ, ◌+◌, ◌<◌, Bool, List, [], ◌∷◌, ◌++◌, length, get_or, refl, sym, ap, ap₂, ◌∙◌, subst, arith}
use Rattle.std.proofs.lemmas.List.{map_push, take_more, take_all}
use Rattle.std.proofs.lemmas.List.Elements.{All-push}
use Rattle.state_table.specs.declared.shared_sets.SharedItem.{SharedItem}
use Rattle.state_table.specs.ItemRows.{Item, Core}
use Rattle.state_table.specs.Meeting.{row}
use Rattle.state_table.specs.OwnSets.{HaveOwn}
use Rattle.state_table.specs.Sharing.{keys_of, rows_at, PointIn}
use Rattle.state_table.specs.CoreViews.{item_of}

pub own_none : {S : Type 0} (number : S → ℕ) (items : List Item) → HaveOwn number items 0 []
own_none number items = record { keys = refl; rows = λ rows le. refl; within = λ rows le k d lt. absurd (omega (arith, lt)) }

pub own_next : {S : Type 0} (number : S → ℕ) (items : List Item) (k : ℕ) (es es' : List (SharedItem S)) (e : SharedItem S) → HaveOwn number items k es → k < length items → e.set ≡ k → ((d : Item) → get_or items k d ≡ item_of number e.item) → es' ≡ es ++ e ∷ [] →
    HaveOwn number items (k + 1) es'
own_next {S = S} number items k es es' e h lt at item ee =
    let i = item_of number e.item in
    record {
      keys = ap (keys_of number) ee ∙ map_push (λ (x : SharedItem S). item_of number x.item) es e ∙ ap₂ (λ (l : List Item) (x : Item). l ++ x ∷ []) h.keys (sym (item i)) ∙ sym (take_more items k i lt);
      rows = λ rows le. ap (rows_at rows) ee ∙ map_push (λ (x : SharedItem S). row rows x.set) es e ∙ ap₂ (λ (l : List (List Bool)) (b : List Bool). l ++ b ∷ []) (h.rows rows (omega (arith, le))) (ap (row rows) at) ∙ sym (take_more rows k [] (omega (arith, le)));
      within = λ rows le. subst (λ (l : List (SharedItem S)). PointIn rows l) (sym ee) (All-push (λ (x : SharedItem S). x.set < length rows) es e (h.within rows (omega (arith, le))) (omega (arith, at, le)));
    }

pub own_all : {S : Type 0} (number : S → ℕ) (c : Core) (n : ℕ) (es : List (SharedItem S)) → HaveOwn number c.items n es → length c.items ≡ n → length c.rows ≡ n → ◌≡◌ {A = Core} (record { items = keys_of number es; rows = rows_at c.rows es }) c
own_all number c n es h e f = ap₂ (λ (a : List Item) (b : List (List Bool)). record { items = a; rows = b }) (h.keys ∙ take_all n c.items (omega (arith, e))) (h.rows c.rows (omega (arith, f)) ∙ take_all n c.rows (omega (arith, f)))
