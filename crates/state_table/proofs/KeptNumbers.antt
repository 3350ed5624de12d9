-- The numbers of a row's entries, against the cells of a full row.
use Rattle.std.proofs.Common.{◌≡◌, ℕ, zero, suc, ◌+◌, ◌<◌, ◌≤◌, Bool, true, false, cond, List, [], ◌∷◌, length, get_or, map, filter, Option, Some, None, refl, sym, ap, ◌∙◌, arith, eq-eqb, ne_eqb}
use Rattle.std.proofs.Math.Decide.{ℕ_discrete}
use Rattle.std.specs.List.{range_with_len}
use Rattle.state_table.specs.Rows.{Rises, Below, at_of}
use Rattle.std.proofs.lemmas.List.{get_or-map, length-map}
use Rattle.lr_theory.specs.Automaton.{Action}
use Rattle.state_table.specs.SparseRows.{or_error, IsCellRow, full_cells}
use Rattle.state_table.specs.TableValues.{TableValue, action_at, keeps, kept_tokens}
use Rattle.state_table.proofs.ReducingRows.{cell}
use Rattle.state_table.proofs.RowsAt.{rises_tail, at_nowhere}

-- two tests that agree on numbers from a on
pub filter_alike : (p q : ℕ → Bool) (k a : ℕ) → ((t : ℕ) → a ≤ t → t < a + k → p t ≡ q t) → filter p (range_with_len a k) ≡ filter q (range_with_len a k)
filter_alike p q zero a h = refl
filter_alike p q (suc k) a h =
    ap (λ (b : Bool). cond b (a ∷ filter p (range_with_len (a + 1) k)) (filter p (range_with_len (a + 1) k))) (h a (omega arith) (omega arith))
    ∙ ap (λ (l : List ℕ). cond (q a) (a ∷ l) l) (filter_alike p q k (a + 1) (λ t le lt. h t (omega (arith, le)) (omega (arith, lt))))

-- the first number is another than a, so all are above it
later : {V : Type 0} (a : ℕ) (x : ℕ × V) (row : List (ℕ × V)) → Rises (x ∷ row) → a ≤ x.0 → (x.0 ≡ a → ⊥) → (i : ℕ) (d : ℕ × V) → i < length (x ∷ row) → a + 1 ≤ (get_or (x ∷ row) i d).0
later a x row up le ne zero d w = omega (arith, le, ne)
later a x row up le ne (suc i) d w = let u = up 0 (suc i) d (omega arith) w in omega (arith, u, le)

module _ {V : Type 0} (P : Option V → Bool) (none : P None ≡ false) where
  abbrev kept : List (ℕ × V) → List (ℕ × V)
  kept row = filter (λ (e : ℕ × V). P (Some e.1)) row

  abbrev numbers : List (ℕ × V) → List ℕ
  numbers row = map (λ (e : ℕ × V). e.0) row

  one_more : (b : Bool) (a : ℕ) (x : ℕ × V) (l : List ℕ) (m : List (ℕ × V)) → x.0 ≡ a → l ≡ numbers m → cond b (a ∷ l) l ≡ numbers (cond b (x ∷ m) m)
  one_more true a x l m e h = ap (λ k. k ∷ l) (sym e) ∙ ap (λ k. x.0 ∷ k) h
  one_more false a x l m e h = h

  by_head : (k a : ℕ) (x : ℕ × V) (row : List (ℕ × V)) → Rises (x ∷ row) → ((i : ℕ) (d : ℕ × V) → i < length (x ∷ row) → a ≤ (get_or (x ∷ row) i d).0) → Below (a + suc k) (x ∷ row) →
      (Rises row → ((i : ℕ) (d : ℕ × V) → i < length row → a + 1 ≤ (get_or row i d).0) → Below (a + 1 + k) row → filter (λ t. P (at_of row t)) (range_with_len (a + 1) k) ≡ numbers (kept row)) →
      (((i : ℕ) (d : ℕ × V) → i < length (x ∷ row) → a + 1 ≤ (get_or (x ∷ row) i d).0) → Below (a + 1 + k) (x ∷ row) → filter (λ t. P (at_of (x ∷ row) t)) (range_with_len (a + 1) k) ≡ numbers (kept (x ∷ row))) →
      Dec (x.0 ≡ a) → filter (λ t. P (at_of (x ∷ row) t)) (range_with_len a (suc k)) ≡ numbers (kept (x ∷ row))
  by_head k a x row up from below rest whole (yes e) =
      let here : at_of (x ∷ row) a ≡ Some x.1 = ap (λ b. cond b (Some x.1) (at_of row a)) (eq-eqb x.0 a e) in
      let above : (i : ℕ) (d : ℕ × V) → i < length row → a + 1 ≤ (get_or row i d).0 = λ i d w. (let u = up 0 (suc i) d (omega arith) (omega (arith, w)) in omega (arith, u, e)) in
      let within : Below (a + 1 + k) row = λ i d w. (let u = below (suc i) d (omega (arith, w)) in omega (arith, u)) in
      let tail = filter_alike (λ t. P (at_of (x ∷ row) t)) (λ t. P (at_of row t)) k (a + 1) (λ t le lt. ap (λ b. P (cond b (Some x.1) (at_of row t))) (ne_eqb x.0 t (λ f. omega (arith, e, f, le)))) in
      ap (λ (o : Option V). cond (P o) (a ∷ filter (λ t. P (at_of (x ∷ row) t)) (range_with_len (a + 1) k)) (filter (λ t. P (at_of (x ∷ row) t)) (range_with_len (a + 1) k))) here
      ∙ one_more (P (Some x.1)) a x (filter (λ t. P (at_of (x ∷ row) t)) (range_with_len (a + 1) k)) (kept row) e (tail ∙ rest (rises_tail x row up) above within)
  by_head k a x row up from below rest whole (no ne) =
      let first = from 0 x (omega arith) in
      let more : (i : ℕ) (d : ℕ × V) → i < length (x ∷ row) → a + 1 ≤ (get_or (x ∷ row) i d).0 = later a x row up first ne in
      let nowhere : at_of (x ∷ row) a ≡ None = at_nowhere (x ∷ row) a (λ i d w f. (let u = more i d w in omega (arith, u, f))) in
      let within : Below (a + 1 + k) (x ∷ row) = λ i d w. (let u = below i d w in omega (arith, u)) in
      ap (λ (o : Option V). cond (P o) (a ∷ filter (λ t. P (at_of (x ∷ row) t)) (range_with_len (a + 1) k)) (filter (λ t. P (at_of (x ∷ row) t)) (range_with_len (a + 1) k))) nowhere
      ∙ (ap (λ (b : Bool). cond b (a ∷ filter (λ t. P (at_of (x ∷ row) t)) (range_with_len (a + 1) k)) (filter (λ t. P (at_of (x ∷ row) t)) (range_with_len (a + 1) k))) none
      ∙ whole more within)

  -- from a on, k numbers
  pub kept_numbers : (k a : ℕ) (row : List (ℕ × V)) → Rises row → ((i : ℕ) (d : ℕ × V) → i < length row → a ≤ (get_or row i d).0) → Below (a + k) row →
      filter (λ t. P (at_of row t)) (range_with_len a k) ≡ numbers (kept row)
  kept_numbers zero a [] up from below = refl
  kept_numbers zero a (x ∷ row) up from below = let u = from 0 x (omega arith) in let w = below 0 x (omega arith) in absurd (omega (arith, u, w))
  kept_numbers (suc k) a [] up from below =
      ap (λ (b : Bool). cond b (a ∷ filter (λ t. P (at_of {V = V} [] t)) (range_with_len (a + 1) k)) (filter (λ t. P (at_of {V = V} [] t)) (range_with_len (a + 1) k))) none
      ∙ kept_numbers k (a + 1) [] (λ i j d ij w. absurd (omega (arith, w))) (λ i d w. absurd (omega (arith, w))) (λ i d w. absurd (omega (arith, w)))
  kept_numbers (suc k) a (x ∷ row) up from below =
      by_head k a x row up from below (λ u f b. kept_numbers k (a + 1) row u f b) (λ f b. kept_numbers k (a + 1) (x ∷ row) up f b) (ℕ_discrete x.0 a)

keeps_error : (shifts : Bool) → keeps shifts Action.error ≡ false
keeps_error true = refl
keeps_error false = refl

-- the tokens of a row's cells are those of the full row
pub tokens_kept : (shifts : Bool) (v : TableValue) (s : ℕ) (row : List (ℕ × Action)) → get_or v.actions s [] ≡ full_cells v.tokens row → IsCellRow v.tokens row →
    kept_tokens shifts row ≡ filter (λ t. keeps shifts (action_at v s t)) (range_with_len 0 v.tokens)
tokens_kept shifts v s row whole is =
    let P : Option Action → Bool = λ o. keeps shifts (or_error o) in
    sym (kept_numbers P (keeps_error shifts) v.tokens 0 row is.rises (λ i d w. omega arith) (λ i d w. (let b = is.below i d w in omega (arith, b))))
    ∙ filter_alike (λ t. keeps shifts (or_error (at_of row t))) (λ t. keeps shifts (action_at v s t)) v.tokens 0 (λ t le lt. ap (λ (a : Action). keeps shifts a) (sym (cell v s row whole is t (omega (arith, lt)))))

pub below_under : {V W : Type 0} (h : V → W) (row : List (ℕ × V)) (n m : ℕ) → Below n (map (λ (e : ℕ × V). (e.0, h e.1)) row) → n ≤ m → Below (m + 1) row
below_under {V} {W} h row n m low le i d w =
    let f : ℕ × V → ℕ × W = λ e. (e.0, h e.1) in
    let k = length-map row f in
    let b = low i (f d) (omega (arith, k, w)) in
    let e = ap (λ (y : ℕ × W). y.0) (get_or-map f row i d (f d) w) in
    omega (arith, b, e, le)
