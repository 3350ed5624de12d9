-- Sets of core items with rows of lookaheads, as maps.
use Rattle.std.proofs.Common.{◌≡◌, ℕ, zero, suc, ◌<◌, ◌⊎◌, inl, inr, ◌↔◌, Bool, true, false, List, [], ◌∷◌, length, get_or, Some, slice_get, refl, sym, ap, ◌∙◌, subst, subst₂, arith}
use Rattle.std.specs.Prelude.{IsTrue}
use Rattle.std.proofs.lemmas.Bool.{cases_eq, cases_lt}
use Rattle.vob.specs.Sets.{is_set}
use Rattle.lr_theory.specs.Itemset.{HasItem, HasLook, WeaklyCompatible, Cross, Meet}
use Rattle.lr_theory.specs.Building.{Incompatible}
use Rattle.vob.specs.Bits.{Meets}
use Rattle.state_table.specs.Meeting.{PairFits, RowsFit, RowsApart, row}
use Rattle.state_table.specs.ItemRows.{Item, IsAt, Ascends, set_of}
pub use Rattle.lr_theory.proofs.ItemLists.{tail, found, stands, has_item, one_index as one_place}

never : false ≡ true → ⊥
never e = cc

module _ (items : List Item) (rows : List (List Bool)) (a : Ascends items) (n : length rows ≡ length items) where
  pub has_look : (p d t : ℕ) → HasLook (set_of items rows) p d t ↔ ((k : ℕ) × IsAt items k p d × IsTrue (is_set (row rows k) t))
  has_look p d t = (to, λ h. record { lookaheads = row rows h.0; at = stands items rows h.0 p d a n h.1; set = got_back (row rows h.0) t h.2 })
    where
      got : (l : List Bool) (t : ℕ) → slice_get l t ≡ Some true → IsTrue (is_set l t)
      got [] t e = cc
      got (x ∷ l) zero e = cc
      got (x ∷ l) (suc t) e = got l t e

      got_back : (l : List Bool) (t : ℕ) → IsTrue (is_set l t) → slice_get l t ≡ Some true
      got_back [] t e = absurd (never e)
      got_back (x ∷ l) zero e = ap (λ y. Some y) e
      got_back (x ∷ l) (suc t) e = got_back l t e

      to : HasLook (set_of items rows) p d t → (k : ℕ) × IsAt items k p d × IsTrue (is_set (row rows k) t)
      to h = let f = found items rows p d h.lookaheads n h.at in (f.0, f.1, subst (λ l. IsTrue (is_set l t)) (sym f.2) (got h.lookaheads t h.set))

any_default : {X : Type 0} (xs : List X) (i : ℕ) (x y : X) → i < length xs → get_or xs i x ≡ get_or xs i y
any_default [] i x y lt = absurd (omega (arith, lt))
any_default (z ∷ xs) zero x y lt = refl
any_default (z ∷ xs) (suc i) x y lt = any_default xs i x y (omega (arith, lt))

pub nought : Item
nought = record { production = 0; dot = 0 }

pub at_own : (items : List Item) (i : ℕ) → i < length items → IsAt items i (get_or items i nought).production (get_or items i nought).dot
at_own items i lt = record {
  within = lt;
  production = ap (λ (x : Item). x.production) (any_default items i (record { production = (get_or items i nought).production; dot = (get_or items i nought).dot }) nought lt);
  dot = ap (λ (x : Item). x.dot) (any_default items i (record { production = (get_or items i nought).production; dot = (get_or items i nought).dot }) nought lt);
}

-- two maps of the same items
module _ (items : List Item) (a : Ascends items) where
  look_at : (rows : List (List Bool)) → length rows ≡ length items → (k p d t : ℕ) → IsAt items k p d → HasLook (set_of items rows) p d t ↔ IsTrue (is_set (row rows k) t)
  look_at rows n k p d t at = (
    λ h. (let f = (has_look items rows a n p d t).0 h in subst (λ j. IsTrue (is_set (row rows j) t)) (one_place items a f.0 k p d f.1 at) f.2),
    λ h. (has_look items rows a n p d t).1 (k, at, h),
  )

  pub meets_at : (ls ms : List (List Bool)) → length ls ≡ length items → length ms ≡ length items → (j k p d q e : ℕ) → IsAt items j p d → IsAt items k q e →
      Cross (HasLook (set_of items ls)) (HasLook (set_of items ms)) p d q e ↔ Meets (row ls j) (row ms k)
  meets_at ls ms n m j k p d q e x y = (
    λ c. (c.0, (look_at ls n j p d c.0 x).0 c.1, (look_at ms m k q e c.0 y).0 c.2),
    λ c. (c.0, (look_at ls n j p d c.0 x).1 c.1, (look_at ms m k q e c.0 y).1 c.2),
  )

  module _ (ls ms : List (List Bool)) (n : length ls ≡ length items) (m : length ms ≡ length items) where
    L : ℕ → ℕ → ℕ → Type 0
    L = HasLook (set_of items ls)

    M : ℕ → ℕ → ℕ → Type 0
    M = HasLook (set_of items ms)

    abbrev Fit : ℕ → ℕ → ℕ → ℕ → Type 0
    Fit p d q e = ((Cross (HasLook (set_of items ls)) (HasLook (set_of items ms)) p d q e → ⊥) × (Cross (HasLook (set_of items ms)) (HasLook (set_of items ls)) p d q e → ⊥)) ⊎
        Meet (HasLook (set_of items ls)) p d q e ⊎ Meet (HasLook (set_of items ms)) p d q e

    fit_at : (j k p d q e : ℕ) → IsAt items j p d → IsAt items k q e → PairFits (row ls j) (row ls k) (row ms j) (row ms k) → Fit p d q e
    fit_at j k p d q e x y (inl h) = inl ((λ c. h.0 ((meets_at ls ms n m j k p d q e x y).0 c)), (λ c. h.1 ((meets_at ms ls m n j k p d q e x y).0 c)))
    fit_at j k p d q e x y (inr (inl h)) = inr (inl ((meets_at ls ls n n j k p d q e x y).1 h))
    fit_at j k p d q e x y (inr (inr h)) = inr (inr ((meets_at ms ms m m j k p d q e x y).1 h))

    turned : {p d q e : ℕ} → Fit q e p d → Fit p d q e
    turned (inl h) = inl ((λ c. h.1 (c.0, c.2, c.1)), (λ c. h.0 (c.0, c.2, c.1)))
    turned (inr (inl h)) = inr (inl (h.0, h.2, h.1))
    turned (inr (inr h)) = inr (inr (h.0, h.2, h.1))

    pub weakly : RowsFit ls ms → WeaklyCompatible (HasItem (set_of items ls)) (HasLook (set_of items ls)) (HasLook (set_of items ms))
    weakly fit p d q e hp hq differ = by ((has_item items ls a n p d).0 hp) ((has_item items ls a n q e).0 hq)
      where
        same : (j k : ℕ) → j ≡ k → IsAt items j p d → IsAt items k q e → ⊥
        same j k q' x y =
            let z = subst (λ i. IsAt items i p d) q' x in
            differ (sym z.production ∙ ap (λ (u : Item). u.production) (any_default items k (record { production = p; dot = d }) (record { production = q; dot = e }) y.within) ∙ y.production) (sym z.dot ∙ ap (λ (u : Item). u.dot) (any_default items k (record { production = p; dot = d }) (record { production = q; dot = e }) y.within) ∙ y.dot)

        by : (j : ℕ) × IsAt items j p d → (k : ℕ) × IsAt items k q e → Fit p d q e
        by (j, x) (k, y) = elim (cases_lt j k) [
          | inl lt ↦ fit_at j k p d q e x y (fit j k lt (let w = y.within in omega (arith, w, n)))
          | inr ge ↦ elim (cases_eq j k) [
            | inl eq ↦ absurd (same j k eq x y)
            | inr ne ↦ turned {p = p} {d = d} {q = q} {e = e} (fit_at k j q e p d y x (fit k j (omega (arith, ge, ne)) (let w = x.within in omega (arith, w, n))))
          ]
        ]

    pub apart : RowsApart ls ms → Incompatible (HasItem (set_of items ls)) (HasLook (set_of items ls)) (HasLook (set_of items ms))
    apart (i, j, lt, within, h) = elim h.cross [ inl c ↦ one i j ne (at_own items i li) (at_own items j lj) c h.apart h.other_apart | inr c ↦ one j i (λ q. ne (sym q)) (at_own items j lj) (at_own items i li) (c.0, c.2, c.1) (λ m. h.apart (m.0, m.2, m.1)) (λ m. h.other_apart (m.0, m.2, m.1)) ]
      where
        lj : j < length items
        lj = omega (arith, within, n)

        li : i < length items
        li = omega (arith, lt, within, n)

        ne : i ≡ j → ⊥
        ne q = omega (arith, lt, q)

        one : (i j : ℕ) → (i ≡ j → ⊥) → {p d q e : ℕ} → IsAt items i p d → IsAt items j q e → Meets (row ls i) (row ms j) → (Meets (row ls i) (row ls j) → ⊥) → (Meets (row ms i) (row ms j) → ⊥) →
            Incompatible (HasItem (set_of items ls)) (HasLook (set_of items ls)) (HasLook (set_of items ms))
        one i j ne {p = p} {d = d} {q = q} {e = e} x y c u v = record {
          production = p;
          dot = d;
          other_production = q;
          other_dot = e;
          item = (has_item items ls a n p d).1 (i, x);
          other_item = (has_item items ls a n q e).1 (j, y);
          differ = λ f g. ne (one_place items a i j q e (subst₂ (λ r s. IsAt items i r s) f g x) y);
          cross = (meets_at ls ms n m i j p d q e x y).1 c;
          apart = λ w. u ((meets_at ls ls n n i j p d q e x y).0 w);
          other_apart = λ w. v ((meets_at ms ms m m i j p d q e x y).0 w);
        }
