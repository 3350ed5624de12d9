-- What stands beside a number in a row that rises.
use Rattle.std.proofs.Common.{◌≡◌, ℕ, zero, suc, ◌<◌, cond, List, [], ◌∷◌, length, get_or, Option, Some, None, refl, sym, ap, ◌∙◌, subst, arith, eq-eqb, ne_eqb}
use Rattle.std.specs.Prelude.{MatchOption}
use Rattle.std.proofs.lemmas.List.{get_or_default}
use Rattle.state_table.specs.Rows.{Rises, HasAt, at_of}

pub rises_tail : {V : Type 0} (x : ℕ × V) (row : List (ℕ × V)) → Rises (x ∷ row) → Rises row
rises_tail x row up = λ i j d ij w. up (suc i) (suc j) d (omega (arith, ij)) (omega (arith, w))

pub at_index : {V : Type 0} (row : List (ℕ × V)) (i : ℕ) (d : ℕ × V) → Rises row → i < length row → at_of row (get_or row i d).0 ≡ Some (get_or row i d).1
at_index [] i d up lt = absurd (omega (arith, lt))
at_index (x ∷ row) zero d up lt = ap (λ b. cond b (Some x.1) (at_of row x.0)) (eq-eqb x.0 x.0 refl)
at_index (x ∷ row) (suc i) d up lt =
    let below = up 0 (suc i) d (omega arith) lt in
    let w : i < length row = omega (arith, lt) in
    ap (λ b. cond b (Some x.1) (at_of row (get_or row i d).0)) (ne_eqb x.0 (get_or row i d).0 (λ e. omega (arith, below, e))) ∙ at_index row i d (rises_tail x row up) w

pub at_nowhere : {V : Type 0} (row : List (ℕ × V)) (n : ℕ) → ((i : ℕ) (d : ℕ × V) → i < length row → (get_or row i d).0 ≡ n → ⊥) → at_of row n ≡ None
at_nowhere [] n h = refl
at_nowhere (x ∷ row) n h =
    ap (λ b. cond b (Some x.1) (at_of row n)) (ne_eqb x.0 n (λ e. h 0 x (omega arith) e)) ∙ at_nowhere row n (λ i d w. h (suc i) d (omega (arith, w)))

-- a search's answer is what stands there
pub searched : {V : Type 0} (row : List (ℕ × V)) (n : ℕ) (o : Option V) → Rises row → MatchOption o ((v : V) → HasAt row n v → ⊥) (λ v. HasAt row n v) → o ≡ at_of row n
searched {V} row n (Some v) up h =
    let (i, lt, at) = h in
    sym (subst (λ (y : ℕ × V). at_of row y.0 ≡ Some y.1) at (at_index row i (n, v) up lt))
searched {V} row n None up h = sym (at_nowhere row n (λ i d lt e. h (get_or row i d).1 (here i d lt e))) where
  here : (i : ℕ) (d : ℕ × V) → i < length row → (get_or row i d).0 ≡ n → HasAt row n (get_or row i d).1
  here i d lt e = (i, lt, get_or_default row i (n, (get_or row i d).1) d lt ∙ ap (λ (k : ℕ). (k, (get_or row i d).1)) e)
