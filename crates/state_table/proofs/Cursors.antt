-- Steps of an index in a row whose numbers rise.
use Rattle.std.proofs.Common.{◌≡◌, ℕ, ◌+◌, ◌<◌, ◌≤◌, List, length, get_or, Some, None, inl, inr, sym, ap, ◌∙◌, subst, arith}
use Rattle.std.proofs.lemmas.Bool.{cases_eq, cases_lt}
use Rattle.std.proofs.lemmas.List.{get_or_default, get_or-map, length-map}
use Rattle.state_table.specs.Rows.{Rises, at_of}
use Rattle.state_table.specs.Cursors.{IsCursor}
use Rattle.state_table.specs.CellViews.{targets_of}
use Rattle.state_table.specs.declared.stidx.StIdx.{StIdx}
use Rattle.state_table.proofs.RowsAt.{at_index, at_nowhere}

pub at_start : (row : List (ℕ × ℕ)) → IsCursor row 0 0
at_start row = record { before = λ i d lt w. absurd (omega (arith, lt)); rest = λ i d le w. omega arith }

-- past the last number
pub past_end : (row : List (ℕ × ℕ)) (index n : ℕ) → IsCursor row index n → length row ≤ index → (at_of row n ≡ None) × IsCursor row index (n + 1)
past_end row index n is le = (
  at_nowhere row n (λ i d w e. let b = is.before i d (omega (arith, w, le)) w in omega (arith, b, e)),
  record { before = λ i d lt w. (let b = is.before i d lt w in omega (arith, b)); rest = λ i d ge w. absurd (omega (arith, ge, w, le)) },
)

-- the number at the index is another
pub other_number : (row : List (ℕ × ℕ)) (index n : ℕ) (x : ℕ × ℕ) → Rises row → IsCursor row index n → index < length row → x ≡ get_or row index x → (x.0 ≡ n → ⊥) → (at_of row n ≡ None) × IsCursor row index (n + 1)
other_number row index n x up is lt at ne = (
  at_nowhere row n nowhere,
  record { before = λ i d l w. (let b = is.before i d l w in omega (arith, b)); rest = above },
) where
  number_at : (d : ℕ × ℕ) → (get_or row index d).0 ≡ x.0
  number_at d = ap (λ (y : ℕ × ℕ). y.0) (get_or_default row index d x lt ∙ sym at)

  above : (i : ℕ) (d : ℕ × ℕ) → index ≤ i → i < length row → n + 1 ≤ (get_or row i d).0
  above i d ge w = elim (cases_eq i index) [
    | inl e ↦ (let a = number_at d in let f = ap (λ k. (get_or row k d).0) e in let r = is.rest i d ge w in let u : (n ≡ x.0) → ⊥ = λ q. ne (sym q) in omega (arith, a, f, r, u))
    | inr o ↦ (let r = is.rest index d (omega arith) lt in let u = up index i d (omega (arith, ge, o)) w in omega (arith, r, u))
  ]

  nowhere : (i : ℕ) (d : ℕ × ℕ) → i < length row → (get_or row i d).0 ≡ n → ⊥
  nowhere i d w e = elim (cases_lt i index) [
    | inl l ↦ (let b = is.before i d l w in omega (arith, b, e))
    | inr ge ↦ (let a = above i d ge w in omega (arith, a, e))
  ]

-- the number stands at the index
pub same_number : (row : List (ℕ × ℕ)) (index n : ℕ) (x : ℕ × ℕ) → Rises row → IsCursor row index n → index < length row → x ≡ get_or row index x → x.0 ≡ n → (at_of row n ≡ Some x.1) × IsCursor row (index + 1) (n + 1)
same_number row index n x up is lt at e = (
  ap (λ k. at_of row k) (sym e) ∙ subst (λ (y : ℕ × ℕ). at_of row y.0 ≡ Some y.1) (sym at) (at_index row index x up lt),
  record { before = before; rest = rest },
) where
  number_at : (d : ℕ × ℕ) → (get_or row index d).0 ≡ x.0
  number_at d = ap (λ (y : ℕ × ℕ). y.0) (get_or_default row index d x lt ∙ sym at)

  before : (i : ℕ) (d : ℕ × ℕ) → i < index + 1 → i < length row → (get_or row i d).0 < n + 1
  before i d l w = elim (cases_lt i index) [
    | inl h ↦ (let b = is.before i d h w in omega (arith, b))
    | inr ge ↦ (let f = ap (λ k. (get_or row k d).0) (let q : i ≡ index = omega (arith, l, ge) in q) in let a = number_at d in omega (arith, f, a, e))
  ]

  rest : (i : ℕ) (d : ℕ × ℕ) → index + 1 ≤ i → i < length row → n + 1 ≤ (get_or row i d).0
  rest i d ge w = let u = up index i d (omega (arith, ge)) w in let a = number_at d in omega (arith, u, a, e)

-- an edge that is read, in the row of targets
pub target_at : {S : Type 0} (number : S → ℕ) (shifts : List (ℕ × StIdx S)) (i : ℕ) (x : ℕ × StIdx S) → i < length shifts → x ≡ get_or shifts i x →
    ◌≡◌ {A = ℕ × ℕ} (x.0, number x.1.0) (get_or (targets_of number shifts) i (x.0, number x.1.0))
target_at {S} number shifts i x lt at =
    let f : ℕ × StIdx S → ℕ × ℕ = λ e. (e.0, number e.1.0) in
    sym (get_or-map f shifts i x (x.0, number x.1.0) lt ∙ ap f (sym at))

pub targets_length : {S : Type 0} (number : S → ℕ) (shifts : List (ℕ × StIdx S)) → length (targets_of number shifts) ≡ length shifts
targets_length {S} number shifts = let f : ℕ × StIdx S → ℕ × ℕ = λ e. (e.0, number e.1.0) in length-map shifts f
