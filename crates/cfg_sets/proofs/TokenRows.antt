-- The rows of a set of tokens for each rule, as lists of bits.
use Rattle.std.proofs.Common.{◌≡◌, ◌≢◌, ℕ, ◌<◌, inl, inr, ◌↔◌, Bool, true, false, not, ◌||◌, List, [], length, get_or, set, replicate, refl, sym, ap, ◌∙◌, subst, arith}
use Rattle.std.specs.Prelude.{map, IsTrue}
use Rattle.std.proofs.lemmas.List.{get_or-map, map-set, length-map, length-set, length-replicate, get_or-replicate}
use Rattle.std.proofs.lemmas.Bool.{cases_Bool}
use Rattle.vob.specs.Packed.{Contents}
use Rattle.vob.specs.Sets.{SetRows, is_set, is_set_in, missing_in, joined_to, HasAllOf, AreRows}
use Rattle.vob.specs.Passes.{PassStep}
use Rattle.vob.proofs.Bits.{join, length-bitwise, rows_set, rows_step}

abbrev pub rows_of : List Contents → List (List Bool)
rows_of items = map (λ v. v.bits) items

pub empty_are_rows : (n m : ℕ) (rows : List (List Bool)) → rows ≡ replicate n (replicate m false) → AreRows (length rows) m rows
empty_are_rows n m rows e = subst (λ l. AreRows (length l) m l) (sym e) (record {
  count = refl;
  width = λ A lt. ap length (get_or-replicate n A (replicate m false) [] (let len = length-replicate n (replicate m false) in omega (arith, lt, len))) ∙ length-replicate m false;
})

module _ (items : List Contents) (width : ℕ) (v : SetRows) (is : record { width = width; rows = rows_of items } ≡ v) (inv : AreRows (length (rows_of items)) width (rows_of items)) (A : ℕ) (lt : A < length v.rows) (x : Contents) (at : x ≡ get_or items A x) where
  all_rows : AreRows (length v.rows) v.width v.rows
  all_rows = subst (λ w. AreRows (length w.rows) w.width w.rows) is inv

  within : A < length items
  within = let n = ap (λ w. length w.rows) is in let m = length-map items (λ v. v.bits) in omega (arith, n, m, lt)

  pub row_is : x.bits ≡ get_or v.rows A []
  row_is = ap (λ y. y.bits) at ∙ sym (get_or-map (λ y. y.bits) items A x [] within) ∙ ap (λ w. get_or w.rows A []) is

  pub row_width : length x.bits ≡ v.width
  row_width = ap length row_is ∙ all_rows.width A lt

  module _ (y : Contents) where
    pub rows_after : rows_of (set items A y) ≡ set v.rows A y.bits
    rows_after = map-set (λ z. z.bits) items A y ∙ ap (λ w. set w.rows A y.bits) is

    pub still_rows : length y.bits ≡ v.width → AreRows (length (rows_of (set items A y))) width (rows_of (set items A y))
    still_rows e =
        let n : length v.rows ≡ length (set v.rows A y.bits) = sym (length-set v.rows A y.bits) in
        let r = rows_set (length v.rows) v.width v.rows A y.bits all_rows e in
        let s = subst (λ k. AreRows k v.width (set v.rows A y.bits)) n r in
        let t = subst (λ l. AreRows (length l) v.width l) (sym rows_after) s in
        subst (λ k. AreRows (length (rows_of (set items A y))) k (rows_of (set items A y))) (sym (ap (λ w. w.width) is)) t

    -- the row was joined to
    module _ (ys : List Bool) (len : length ys ≡ v.width) (made : y.bits ≡ join x.bits ys) where
      joined_width : length y.bits ≡ v.width
      joined_width = ap length made ∙ length-bitwise (λ p q. p || q) x.bits ys (row_width ∙ sym len) ∙ row_width

      pub join_rows : AreRows (length (rows_of (set items A y))) width (rows_of (set items A y))
      join_rows = still_rows joined_width

      new_rows : rows_of (set items A y) ≡ joined_to v.rows A ys
      new_rows = rows_after ∙ ap (λ b. set v.rows A b) (made ∙ ap (λ b. join b ys) row_is)

      pub join_value : ◌≡◌ {A = SetRows} (record { width = width; rows = rows_of (set items A y) }) (record { width = v.width; rows = joined_to v.rows A ys })
      join_value = ap {B = SetRows} (λ k. record { width = k; rows = rows_of (set items A y) }) (ap (λ (w : SetRows). w.width) is) ∙ ap {B = SetRows} (λ l. record { width = v.width; rows = l }) new_rows

      pub join_steps : (changed : Bool) → IsTrue changed ↔ (y.bits ≢ x.bits) → PassStep missing_in (HasAllOf A ys) v.rows (rows_of (set items A y)) changed
      join_steps changed tells =
          let row = get_or v.rows A [] in
          let told : IsTrue changed ↔ (join row ys ≢ row) = subst (λ b. IsTrue changed ↔ (join b ys ≢ b)) row_is (subst (λ b. IsTrue changed ↔ (b ≢ x.bits)) made tells) in
          subst (λ l. PassStep missing_in (HasAllOf A ys) v.rows l changed) (sym new_rows) (rows_step v.rows A ys changed lt (all_rows.width A lt ∙ sym len) told)

    -- a number was put in
    module _ (t : ℕ) (made : y.bits ≡ set x.bits t true) where
      pub put_rows : AreRows (length (rows_of (set items A y))) width (rows_of (set items A y))
      put_rows = still_rows (ap length made ∙ length-set x.bits t true ∙ row_width)

      pub put_value : ◌≡◌ {A = SetRows} (record { width = width; rows = rows_of (set items A y) }) (record { width = v.width; rows = set v.rows A (set (get_or v.rows A []) t true) })
      put_value = ap {B = SetRows} (λ k. record { width = k; rows = rows_of (set items A y) }) (ap (λ (w : SetRows). w.width) is) ∙ ap {B = SetRows} (λ l. record { width = v.width; rows = l }) (rows_after ∙ ap (λ b. set v.rows A b) (made ∙ ap (λ b. set b t true) row_is))

      pub put_was : (new : Bool) → IsTrue new ↔ (is_set x.bits t ≡ not true) → IsTrue (not new) ↔ IsTrue (is_set_in v.rows A t)
      put_was new tells = by new tells
        where
          at_row : is_set x.bits t ≡ is_set_in v.rows A t
          at_row = ap (λ b. is_set b t) row_is

          never : false ≡ true → ⊥
          never e = cc

          by : (b : Bool) → IsTrue b ↔ (is_set x.bits t ≡ not true) → IsTrue (not b) ↔ IsTrue (is_set_in v.rows A t)
          by true h = (λ e. absurd (never e), λ e. absurd (never (sym (h.0 refl) ∙ at_row ∙ e)))
          by false h = (λ _. elim (cases_Bool (is_set x.bits t)) [ inl e ↦ sym at_row ∙ e | inr e ↦ absurd (never (h.1 e)) ], λ _. refl)
