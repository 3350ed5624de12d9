-- Rows that rise.
use Rattle.std.proofs.Common.{◌≡◌, ℕ, zero, suc, ◌+◌, ◌<◌, ◌≤◌, inl, inr, List, [], ◌∷◌, length, get_or, refl, sym, ap, ◌∙◌, arith}
use Rattle.std.proofs.lemmas.Bool.{cases_eq, cases_lt}
use Rattle.state_table.specs.Rows.{Rises}

any_default : {X : Type 0} (xs : List X) (i : ℕ) (x y : X) → i < length xs → get_or xs i x ≡ get_or xs i y
any_default [] i x y lt = absurd (omega (arith, lt))
any_default (z ∷ xs) zero x y lt = refl
any_default (z ∷ xs) (suc i) x y lt = any_default xs i x y (omega (arith, lt))

module _ {V : Type 0} (row : List (ℕ × V)) (rises : Rises row) (m n : ℕ) (x : ℕ × V) (lt : m < length row) (at : x ≡ get_or row m x) where
  number_at : (d : ℕ × V) → (get_or row m d).0 ≡ x.0
  number_at d = ap (λ (u : ℕ × V). u.0) (any_default row m d x lt ∙ sym at)

  -- numbers up to the middle one are below what it is below
  pub under : x.0 < n → (i : ℕ) (d : ℕ × V) → i < m + 1 → (get_or row i d).0 < n
  under less i d l = elim (cases_lt i m) [
    | inl il ↦ (let r = rises i m d il lt in let e = number_at d in omega (arith, r, e, less))
    | inr ge ↦ (let q : i ≡ m = omega (arith, l, ge) in let e = ap (λ k. (get_or row k d).0) q in let f = number_at d in omega (arith, e, f, less))
  ]

  -- and from it on, above what it is above
  pub over : n < x.0 → (i : ℕ) (d : ℕ × V) → m ≤ i → i < length row → n < (get_or row i d).0
  over more i d l within = elim (cases_eq i m) [
    | inl q ↦ (let e = ap (λ k. (get_or row k d).0) q in let f = number_at d in omega (arith, e, f, more))
    | inr ne ↦ (let r = rises m i d (omega (arith, l, ne)) within in let e = number_at d in omega (arith, r, e, more))
  ]
