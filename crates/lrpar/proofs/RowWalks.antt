-- Walks over what a table keeps of a state: entries whose numbers rise.
use Rattle.std.proofs.Common.{◌≡◌, ℕ, suc, ◌+◌, ◌<◌, ◌≤◌, inl, inr, Bool, true, false, cond, nat_eq, List, [], ◌∷◌, length, get_or, Option, Some, None, refl, sym, ap, ◌∙◌, subst, arith}
use Rattle.std.specs.Prelude.{slice_get}
use Rattle.std.proofs.lemmas.Bool.{cases_lt}
use Rattle.std.proofs.lemmas.Bool.Decides.{nat_tests}
use Rattle.std.proofs.lemmas.Option.{get_or_from_slice_get, slice_get_within, some_pair_parts}
use Rattle.std.proofs.lemmas.List.{get_or_past}
use Rattle.std.proofs.lemmas.List.FromFn.{length-map-range_with_len, get_or-map-range_with_len}
use Rattle.lr_theory.specs.Automaton.{Action, error}
use Rattle.state_table.specs.Rows.{Rises, at_of}
use Rattle.state_table.specs.SparseRows.{or_error, full_cells, full_targets, IsCellRow, IsTargetRow}
use Rattle.state_table.specs.TableValues.{TableValue, action_at, goto_at}
use Rattle.state_table.proofs.RowsAt.{at_index}

found_step : {V : Type 0} (x : ℕ × V) (row : List (ℕ × V)) (n : ℕ) (v : V) (b : Bool) → nat_eq x.0 n ≡ b → (at_of row n ≡ Some v → (k : ℕ) × (slice_get row k ≡ Some (n, v))) → cond b (Some x.1) (at_of row n) ≡ Some v → (k : ℕ) × (slice_get (x ∷ row) k ≡ Some (n, v))
found_step x row n v true t later h =
    let s : x.0 ≡ n = grind (arith, nat_tests) in
    let w : x.1 ≡ v = cc in
    (0, ap (λ (m : ℕ). Some (m, x.1)) s ∙ ap (λ y. Some (n, y)) w)
found_step x row n v false t later h = let f = later h in (suc f.0, f.1)

-- what stands beside a number stands at an index
pub found_at : {V : Type 0} (row : List (ℕ × V)) (n : ℕ) (v : V) → at_of row n ≡ Some v → (k : ℕ) × (slice_get row k ≡ Some (n, v))
found_at [] n v h = cc
found_at (x ∷ row) n v h = found_step x row n v (nat_eq x.0 n) refl (found_at row n v) h

pub rises_at : {V : Type 0} (row : List (ℕ × V)) (i j : ℕ) (x y : ℕ × V) → Rises row → slice_get row i ≡ Some x → slice_get row j ≡ Some y → i < j → x.0 < y.0
rises_at row i j x y up hi hj lt =
    let u = up i j x lt (slice_get_within row j y hj) in
    subst (λ (z : ℕ × _). x.0 < z.0) (get_or_from_slice_get row j y x hj) (subst (λ (z : ℕ × _). z.0 < (get_or row j x).0) (get_or_from_slice_get row i x x hi) u)

pub at_there : {V : Type 0} (row : List (ℕ × V)) (k n : ℕ) (v : V) → Rises row → slice_get row k ≡ Some (n, v) → at_of row n ≡ Some v
at_there row k n v up h =
    let e = get_or_from_slice_get row k (n, v) (n, v) h in
    subst (λ (z : ℕ × _). at_of row z.0 ≡ Some z.1) e (at_index row k (n, v) up (slice_get_within row k (n, v) h))

-- P holds of the numbers of the entries before the i-th
abbrev pub RowTo : {V : Type 0} → List (ℕ × V) → (ℕ → Type 0) → ℕ → Type 0
RowTo {V} row P i = (k n : ℕ) (v : V) → k < i → slice_get row k ≡ Some (n, v) → P n

pub row_none : {V : Type 0} (row : List (ℕ × V)) (P : ℕ → Type 0) → RowTo row P 0
row_none row P k n v lt = absurd (omega (arith, lt))

pub row_more : {V : Type 0} (row : List (ℕ × V)) (P : ℕ → Type 0) (i u : ℕ) (w : V) → RowTo row P i → slice_get row i ≡ Some (u, w) → P u → RowTo row P (i + 1)
row_more row P i u w below here p k n v lt at = elim (cases_lt k i) [
  | inl less ↦ below k n v less at
  | inr ge ↦
      let e : k ≡ i = omega (arith, lt, ge) in
      let parts = some_pair_parts u n w v (sym here ∙ ap (slice_get row) (sym e) ∙ at) in
      subst P parts.0 p
]

module _ {V : Type 0} (row : List (ℕ × V)) (up : Rises row) (P : ℕ → Type 0) (none : (n : ℕ) → at_of row n ≡ None → P n) where
  by_entry : (i n : ℕ) (o : Option V) → RowTo row P i → ((k : ℕ) (v : V) → slice_get row k ≡ Some (n, v) → k < i) → at_of row n ≡ o → P n
  by_entry i n None below inside e = none n e
  by_entry i n (Some v) below inside e = let f = found_at row n v e in below f.0 n v (inside f.0 v f.1) f.1

  -- then it holds of all numbers before that of the i-th
  pub before_entry : (i u : ℕ) (w : V) → RowTo row P i → slice_get row i ≡ Some (u, w) → (n : ℕ) → n < u → P n
  before_entry i u w below here n lt = by_entry i n (at_of row n) below inside refl
    where
      inside : (k : ℕ) (v : V) → slice_get row k ≡ Some (n, v) → k < i
      inside k v at = elim (cases_lt k i) [
        | inl less ↦ less
        | inr ge ↦ elim (cases_lt i k) [
          | inl past ↦ (let r = rises_at row i k (u, w) (n, v) up here at past in absurd (omega (arith, r, lt)))
          | inr le ↦
              let e : k ≡ i = omega (arith, ge, le) in
              let parts = some_pair_parts u n w v (sym here ∙ ap (slice_get row) (sym e) ∙ at) in
              let f = parts.0 in
              absurd (omega (arith, f, lt))
        ]
      ]

  -- and at the end of all
  pub all_entries : (i : ℕ) → RowTo row P i → length row ≤ i → (n : ℕ) → P n
  all_entries i below le n = by_entry i n (at_of row n) below (λ k v at. (let w = slice_get_within row k (n, v) at in omega (arith, w, le))) refl

-- the cells of a state
module _ (v : TableValue) (s : ℕ) (row : List (ℕ × Action)) (whole : get_or v.actions s [] ≡ full_cells v.tokens row) (is : IsCellRow v.tokens row) where
  pub cell_inside : (k t : ℕ) (a : Action) → slice_get row k ≡ Some (t, a) → t < v.tokens
  cell_inside k t a at = subst (λ (z : ℕ × Action). z.0 < v.tokens) (get_or_from_slice_get row k (t, a) (t, a) at) (is.below k (t, a) (slice_get_within row k (t, a) at))

  pub cell_of_row : (t : ℕ) → t < v.tokens → action_at v s t ≡ or_error (at_of row t)
  cell_of_row t lt = ap (λ (r : List Action). get_or r t error) whole ∙ get_or-map-range_with_len (λ (u : ℕ). or_error (at_of row u)) 0 v.tokens t t error lt (omega arith)

  pub cell_there : (k t : ℕ) (a : Action) → slice_get row k ≡ Some (t, a) → action_at v s t ≡ a
  cell_there k t a at = cell_of_row t (cell_inside k t a at) ∙ ap or_error (at_there row k t a is.rises at)

  past_cells : (t : ℕ) → v.tokens ≤ t → action_at v s t ≡ error
  past_cells t le =
      let n = length-map-range_with_len (λ (u : ℕ). or_error (at_of row u)) 0 v.tokens in
      ap (λ (r : List Action). get_or r t error) whole ∙ get_or_past (full_cells v.tokens row) t error (omega (arith, n, le))

  pub cell_nowhere : (t : ℕ) → at_of row t ≡ None → action_at v s t ≡ error
  cell_nowhere t e = elim (cases_lt t v.tokens) [
    | inl lt ↦ cell_of_row t lt ∙ ap or_error e
    | inr le ↦ past_cells t le
  ]

  -- P holds of each token whose cell is an error
  module _ (P : ℕ → Type 0) (errors : (t : ℕ) → action_at v s t ≡ error → P t) where
    pub before_cell : (i u : ℕ) (w : Action) → RowTo row P i → slice_get row i ≡ Some (u, w) → (t : ℕ) → t < u → P t
    before_cell i u w below here t lt = before_entry row is.rises P (λ n e. errors n (cell_nowhere n e)) i u w below here t lt

    pub all_cells : (i : ℕ) → RowTo row P i → length row ≤ i → (t : ℕ) → P t
    all_cells i below le t = all_entries row is.rises P (λ n e. errors n (cell_nowhere n e)) i below le t

-- its gotos
module _ (v : TableValue) (s : ℕ) (row : List (ℕ × ℕ)) (whole : get_or v.gotos s [] ≡ full_targets v.rules row) (is : IsTargetRow v.rules row) where
  pub goto_inside : (k A q : ℕ) → slice_get row k ≡ Some (A, q) → A < v.rules
  goto_inside k A q at = subst (λ (z : ℕ × ℕ). z.0 < v.rules) (get_or_from_slice_get row k (A, q) (A, q) at) (is.below k (A, q) (slice_get_within row k (A, q) at))

  pub goto_of_row : (A : ℕ) → A < v.rules → goto_at v s A ≡ at_of row A
  goto_of_row A lt = ap (λ (r : List (Option ℕ)). get_or r A None) whole ∙ get_or-map-range_with_len (λ (B : ℕ). at_of row B) 0 v.rules A A None lt (omega arith)

  pub goto_there : (k A q : ℕ) → slice_get row k ≡ Some (A, q) → goto_at v s A ≡ Some q
  goto_there k A q at = goto_of_row A (goto_inside k A q at) ∙ at_there row k A q is.rises at

  pub past_gotos : (A : ℕ) → v.rules ≤ A → goto_at v s A ≡ None
  past_gotos A le =
      let n = length-map-range_with_len (λ (B : ℕ). at_of row B) 0 v.rules in
      ap (λ (r : List (Option ℕ)). get_or r A None) whole ∙ get_or_past (full_targets v.rules row) A None (omega (arith, n, le))

  pub goto_nowhere : (A : ℕ) → at_of row A ≡ None → goto_at v s A ≡ None
  goto_nowhere A e = elim (cases_lt A v.rules) [
    | inl lt ↦ goto_of_row A lt ∙ e
    | inr le ↦ past_gotos A le
  ]

  module _ (P : ℕ → Type 0) (nones : (A : ℕ) → goto_at v s A ≡ None → P A) where
    pub before_goto : (i B q : ℕ) → RowTo row P i → slice_get row i ≡ Some (B, q) → (A : ℕ) → A < B → P A
    before_goto i B q below here A lt = before_entry row is.rises P (λ n e. nones n (goto_nowhere n e)) i B q below here A lt

    pub all_gotos : (i : ℕ) → RowTo row P i → length row ≤ i → (A : ℕ) → P A
    all_gotos i below le A = all_entries row is.rises P (λ n e. nones n (goto_nowhere n e)) i below le A
