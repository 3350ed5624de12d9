-- Full rows, place by place and row by row.
use Rattle.std.proofs.Common.{◌≡◌, ℕ, zero, suc, ◌+◌, ◌-◌, ◌<◌, ◌≤◌, ◌⊎◌, inl, inr, List, [], ◌∷◌, ◌++◌, length, take, get_or, map, Option, Some, None, refl, sym, ap, ◌∙◌, subst, arith}
use Rattle.std.specs.Prelude.{slice_get, slice_set, replicate, option_map}
use Rattle.std.specs.declared.alloc.Global.{Global}
use Rattle.std.specs.declared.vec.Vec.{Vec}
use Rattle.std.proofs.lemmas.Bool.{cases_lt, cases_eq}
use Rattle.std.proofs.lemmas.List.{length-replicate, length-map, get_or-map}
use Rattle.std.proofs.lemmas.Option.{get_or_from_slice_get, slice_get-get_or, slice_get_within, same_Some}
use Rattle.state_table.specs.declared.stidx.StIdx.{StIdx}
use Rattle.state_table.specs.declared.cells.Action.{Action as TableAction}
use Rattle.state_table.specs.declared.cells.Action.TheVariants as actions
use Rattle.state_table.specs.CellViews.{action_of, cells_of, targets_of}
use Rattle.state_table.specs.Rows.{Rises, Below, at_of}
use Rattle.state_table.specs.SparseRows.{or_error, full_cells, full_targets, IsCellRow, IsTargetRow}
use Rattle.state_table.specs.TableValues.{TableValue, action_at, goto_at}
use Rattle.state_table.proofs.FullRows.{at_over}
use Rattle.state_table.proofs.RowsAt.{at_index, at_nowhere}
use Rattle.lrpar.specs.FullTables.{or_else, IsFull, AreCells, AreTargets, AreRows}
use Rattle.lrpar.proofs.RowWalks.{cell_of_row, goto_of_row, past_gotos}

-- ---- one row

set_same : {X : Type 0} (xs : List X) (q : ℕ) (b : X) → q < length xs → slice_get (slice_set xs q b) q ≡ Some b
set_same [] q b lt = absurd (omega (arith, lt))
set_same (x ∷ xs) zero b lt = refl
set_same (x ∷ xs) (suc q) b lt = set_same xs q b (omega (arith, lt))

set_other : {X : Type 0} (xs : List X) (q u : ℕ) (b : X) → (u ≡ q → ⊥) → slice_get (slice_set xs q b) u ≡ slice_get xs u
set_other [] q u b ne = refl
set_other (x ∷ xs) zero zero b ne = absurd (ne refl)
set_other (x ∷ xs) zero (suc u) b ne = refl
set_other (x ∷ xs) (suc q) zero b ne = refl
set_other (x ∷ xs) (suc q) (suc u) b ne = set_other xs q u b (λ e. ne (ap suc e))

set_length : {X : Type 0} (xs : List X) (q : ℕ) (b : X) → length (slice_set xs q b) ≡ length xs
set_length [] q b = refl
set_length (x ∷ xs) zero b = refl
set_length (x ∷ xs) (suc q) b = ap suc (set_length xs q b)

replicated : {X : Type 0} (n k : ℕ) (b : X) → k < n → slice_get (replicate n b) k ≡ Some b
replicated zero k b lt = absurd (omega (arith, lt))
replicated (suc n) zero b lt = refl
replicated (suc n) (suc k) b lt = replicated n k b (omega (arith, lt))

-- a new row of one value
pub filled : {X : Type 0} (n : ℕ) (b : X) → take n [] ++ replicate (n - 0) b ≡ replicate n b
filled zero b = refl
filled (suc n) b = let same : suc n - 0 ≡ suc n = omega arith in ap (λ k. replicate k b) same

-- a place is told by the row, or is empty where none of the first i entries has its number
pub record FullTo {V : Type 0} (n : ℕ) (row : List (ℕ × V)) (empty : V) (i : ℕ) (full : List V) : Type 0 where
  pub count : length full ≡ n
  pub each : (k : ℕ) → k < n → (slice_get full k ≡ Some (or_else empty (at_of row k))) ⊎ ((slice_get full k ≡ Some empty) × ((j : ℕ) (d : ℕ × V) → j < i → j < length row → (get_or row j d).0 ≡ k → ⊥))

module _ {V : Type 0} (n : ℕ) (row : List (ℕ × V)) (empty : V) where
  pub full_start : (full : List V) → full ≡ replicate n empty → FullTo n row empty 0 full
  full_start full e = record {
    count = ap (λ (l : List V). length l) e ∙ length-replicate n empty;
    each = λ k lt. inr (ap (λ (l : List V). slice_get l k) e ∙ replicated n k empty lt, λ j d none. absurd (omega (arith, none)));
  }

  pub full_more : (i : ℕ) (x : ℕ × V) (full new : List V) → Rises row → i < length row → x ≡ get_or row i x → x.0 < length full → new ≡ slice_set full x.0 x.1 → FullTo n row empty i full → FullTo n row empty (i + 1) new
  full_more i x full new up lt read within e h = subst (FullTo n row empty (i + 1)) (sym e) (record {
    count = set_length full x.0 x.1 ∙ h.count;
    each = λ k less. elim (cases_eq k x.0) [
      | inl same ↦
          let found = at_index row i x up lt in
          let told : at_of row k ≡ Some x.1 = ap (at_of row) same ∙ (ap (λ (y : ℕ × V). at_of row y.0) read ∙ (found ∙ ap (λ (y : ℕ × V). Some y.1) (sym read))) in
          inl (ap (slice_get (slice_set full x.0 x.1)) same ∙ (set_same full x.0 x.1 within ∙ ap (λ (o : Option V). Some (or_else empty o)) (sym told)))
      | inr ne ↦ elim (h.each k less) [
        | inl told ↦ inl (set_other full x.0 k x.1 ne ∙ told)
        | inr none ↦ inr (
          set_other full x.0 k x.1 ne ∙ none.0,
          λ j d l w f. elim (cases_lt j i) [
            | inl before ↦ none.1 j d before w f
            | inr ge ↦
                let s : j ≡ i = omega (arith, l, ge) in
                ne (sym f ∙ (ap (λ m. (get_or row m d).0) s ∙ (entry i d lt ∙ ap (λ (y : ℕ × V). y.0) (sym read))))
          ],
        )
      ]
    ];
  })
    where
      entry : (m : ℕ) (d : ℕ × V) → m < length row → (get_or row m d).0 ≡ (get_or row m x).0
      entry m d w = ap (λ (y : ℕ × V). y.0) (get_or_from_slice_get row m (get_or row m x) d (slice_get-get_or row m x w))

  pub full_all : (i : ℕ) (full : List V) → length row ≤ i → FullTo n row empty i full → IsFull n row empty full
  full_all i full le h = λ k lt. elim (h.each k lt) [
    | inl told ↦ told
    | inr none ↦ none.0 ∙ ap (λ (o : Option V). Some (or_else empty o)) (sym (at_nowhere row k (λ j d w f. none.1 j d (omega (arith, w, le)) w f)))
  ]

-- ---- a table's rows

module _ {S : Type 0} (number : S → ℕ) (v : TableValue) (s : ℕ) where
  cell_read : (o : Option (TableAction S)) → or_error (option_map (action_of number) o) ≡ action_of number (or_else actions.Error o)
  cell_read None = refl
  cell_read (Some a) = refl

  pub are_cells : (row : List (ℕ × TableAction S)) (full : List (TableAction S)) → get_or v.actions s [] ≡ full_cells v.tokens (cells_of number row) → IsCellRow v.tokens (cells_of number row) → IsFull v.tokens row actions.Error full → AreCells number v s full
  are_cells row full whole is h = λ t a lt at.
      ap (action_of number) (same_Some a (or_else actions.Error (at_of row t)) (sym at ∙ h t lt))
      ∙ sym (cell_of_row v s (cells_of number row) whole is t lt ∙ (ap or_error (at_over (action_of number) row t) ∙ cell_read (at_of row t)))

  target_read : (empty : StIdx S) (q : ℕ) (y : StIdx S) (o : Option (StIdx S)) → option_map (λ (x : StIdx S). number x.0) o ≡ Some q → Some y ≡ Some (or_else empty o) → number y.0 ≡ q
  target_read empty q y None e same = cc
  target_read empty q y (Some x) e same = ap (λ (z : StIdx S). number z.0) (same_Some y x same) ∙ same_Some (number x.0) q e

  own_read : (empty y : StIdx S) (o : Option (StIdx S)) → option_map (λ (x : StIdx S). number x.0) o ≡ None → Some y ≡ Some (or_else empty o) → number y.0 ≡ number empty.0
  own_read empty y None e same = ap (λ (z : StIdx S). number z.0) (same_Some y empty same)
  own_read empty y (Some x) e same = cc

  pub goto_below : (row : List (ℕ × ℕ)) → get_or v.gotos s [] ≡ full_targets v.rules row → IsTargetRow v.rules row → (A q : ℕ) → goto_at v s A ≡ Some q → A < v.rules
  goto_below row whole is A q e = elim (cases_lt A v.rules) [
    | inl lt ↦ lt
    | inr le ↦ (let none = past_gotos v s row whole is A le in cc (sym e ∙ none))
  ]

  pub are_targets : (row : List (ℕ × StIdx S)) (empty : StIdx S) (full : List (StIdx S)) → get_or v.gotos s [] ≡ full_targets v.rules (targets_of number row) → IsTargetRow v.rules (targets_of number row) → number empty.0 ≡ s → IsFull v.rules row empty full → AreTargets number v s full
  are_targets row empty full whole is self h = record {
    there = λ A q x e at.
        let lt = goto_below (targets_of number row) whole is A q e in
        target_read empty q x (at_of row A) (read A lt ∙ e) (sym at ∙ h A lt);
    own = λ A x lt e at. own_read empty x (at_of row A) (read A lt ∙ e) (sym at ∙ h A lt) ∙ self;
  }
    where
      read : (A : ℕ) → A < v.rules → option_map (λ (y : StIdx S). number y.0) (at_of row A) ≡ goto_at v s A
      read A lt = sym (goto_of_row v s (targets_of number row) whole is A lt ∙ at_over (λ (y : StIdx S). number y.0) row A)

  -- what a full row has at a rule is its goto, unless it is the state itself
  pub found_goto : (row : List (StIdx S)) (A : ℕ) (x : StIdx S) → AreTargets number v s row → A < v.rules → slice_get row A ≡ Some x → (number x.0 ≡ s → ⊥) → goto_at v s A ≡ Some (number x.0)
  found_goto row A x h lt at other = by_case (goto_at v s A) refl
    where
      by_case : (o : Option ℕ) → goto_at v s A ≡ o → goto_at v s A ≡ Some (number x.0)
      by_case None e = absurd (other (h.own A x lt e at))
      by_case (Some q) e = e ∙ ap (λ k. Some k) (sym (h.there A q x e at))

-- ---- rows

stays_at : {X : Type 0} (xs : List X) (x y : X) (k : ℕ) → slice_get xs k ≡ Some y → slice_get (xs ++ x ∷ []) k ≡ Some y
stays_at [] x y k e = cc
stays_at (z ∷ xs) x y zero e = e
stays_at (z ∷ xs) x y (suc k) e = stays_at xs x y k e

comes_last : {X : Type 0} (xs : List X) (x : X) → slice_get (xs ++ x ∷ []) (length xs) ≡ Some x
comes_last [] x = refl
comes_last (z ∷ xs) x = comes_last xs x

appended_length : {X : Type 0} (xs : List X) (x : X) → length (xs ++ x ∷ []) ≡ length xs + 1
appended_length [] x = omega arith
appended_length (z ∷ xs) x = let h : length (xs ++ x ∷ []) ≡ length xs + 1 = appended_length xs x in omega (arith, h)

pub record RowsTo {X : Type 0} (P : ℕ → List X → Type 0) (n : ℕ) (rows : List (Vec X Global)) : Type 0 where
  pub count : length rows ≡ n
  pub are : AreRows n P rows

module _ {X : Type 0} (P : ℕ → List X → Type 0) where
  pub rows_none : (rows : List (Vec X Global)) → rows ≡ [] → RowsTo P 0 rows
  rows_none rows e = record { count = ap (λ (l : List (Vec X Global)). length l) e; are = λ s lt. absurd (omega (arith, lt)) }

  pub rows_more : (n : ℕ) (rows new : List (Vec X Global)) (x : Vec X Global) → RowsTo P n rows → P n x.items → new ≡ rows ++ x ∷ [] → RowsTo P (n + 1) new
  rows_more n rows new x h is e = subst (RowsTo P (n + 1)) (sym e) (record {
    count = appended_length rows x ∙ ap (λ k. k + 1) h.count;
    are = λ s lt. elim (cases_lt s n) [
      | inl less ↦ (let r = h.are s less in (r.0, stays_at rows x r.0 s r.1, r.2))
      | inr ge ↦
          let same : s ≡ n = omega (arith, lt, ge) in
          (x, ap (slice_get (rows ++ x ∷ [])) (same ∙ sym h.count) ∙ comes_last rows x, subst (λ k. P k x.items) (sym same) is)
    ];
  })

  pub row_within : (n : ℕ) (rows : List (Vec X Global)) (s : ℕ) → AreRows n P rows → s < n → s < length rows
  row_within n rows s h lt = let r = h s lt in slice_get_within rows s r.0 r.1

  pub row_told : (n : ℕ) (rows : List (Vec X Global)) (s : ℕ) (row : Vec X Global) → AreRows n P rows → s < n → slice_get rows s ≡ Some row → P s row.items
  row_told n rows s row h lt at = let r = h s lt in subst (λ (x : Vec X Global). P s x.items) (same_Some r.0 row (sym r.1 ∙ at)) r.2

-- ---- rows of which full ones can be made

pub below_under : {V W : Type 0} (h : V → W) (row : List (ℕ × V)) (n : ℕ) → Below n (map (λ (e : ℕ × V). (e.0, h e.1)) row) → Below n row
below_under {V} {W} h row n low i d w =
    let f : ℕ × V → ℕ × W = λ e. (e.0, h e.1) in
    let k = length-map row f in
    let b = low i (f d) (omega (arith, k, w)) in
    let e = ap (λ (y : ℕ × W). y.0) (get_or-map f row i d (f d) w) in
    omega (arith, b, e)
