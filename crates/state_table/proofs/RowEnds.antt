-- One entry more at the end of a row that rises.
use Rattle.std.proofs.Common.{◌≡◌, ℕ, suc, ◌<◌, ◌≤◌, Bool, true, false, cond, nat_eq, List, [], ◌∷◌, ◌++◌, length, get_or, Option, Some, None, refl, sym, ap, ◌∙◌, subst, arith, eq-eqb, ne_eqb, length-append}
use Rattle.std.proofs.Math.Decide.{ℕ_discrete}
use Rattle.std.proofs.Math.Seq.{get_or-append_seam}
use Rattle.std.proofs.lemmas.List.{get_or_append_left}
use Rattle.state_table.specs.Rows.{Rises, Below, at_of}

module _ {V : Type 0} (row : List (ℕ × V)) (x : ℕ × V) where
  -- what is so of each entry and of the last
  pub each_put : (P : ℕ × V → Type 0) → ((i : ℕ) (d : ℕ × V) → i < length row → P (get_or row i d)) → P x → (i : ℕ) (d : ℕ × V) → i < length (row ++ x ∷ []) → P (get_or (row ++ x ∷ []) i d)
  each_put P h last i d w = by (ℕ_discrete i (length row)) where
    by : Dec (i ≡ length row) → P (get_or (row ++ x ∷ []) i d)
    by (yes e) = subst P (sym (ap (λ k. get_or (row ++ x ∷ []) k d) e ∙ get_or-append_seam row x [] d)) last
    by (no ne) =
        let n = length-append row (x ∷ []) in
        let v : i < length row = omega (arith, n, w, ne) in
        subst P (sym (get_or_append_left row (x ∷ []) d i v)) (h i d v)

  pub rises_put : (n : ℕ) → Rises row → Below n row → n ≤ x.0 → Rises (row ++ x ∷ [])
  rises_put n up h le i j d ij w = by (ℕ_discrete j (length row)) where
    left : (k : ℕ) → k < length row → get_or (row ++ x ∷ []) k d ≡ get_or row k d
    left k v = get_or_append_left row (x ∷ []) d k v

    by : Dec (j ≡ length row) → (get_or (row ++ x ∷ []) i d).0 < (get_or (row ++ x ∷ []) j d).0
    by (yes e) =
        let v : i < length row = omega (arith, e, ij) in
        let a = ap (λ (y : ℕ × V). y.0) (left i v) in
        let b = ap (λ (y : ℕ × V). y.0) (ap (λ k. get_or (row ++ x ∷ []) k d) e ∙ get_or-append_seam row x [] d) in
        let u = h i d v in
        omega (arith, a, b, u, le)
    by (no ne) =
        let n1 = length-append row (x ∷ []) in
        let v : j < length row = omega (arith, n1, w, ne) in
        let a = ap (λ (y : ℕ × V). y.0) (left i (omega (arith, ij, v))) in
        let b = ap (λ (y : ℕ × V). y.0) (left j v) in
        let u = up i j d ij v in
        omega (arith, a, b, u)

pub at_none : {V : Type 0} (row : List (ℕ × V)) (t n : ℕ) → Below n row → n ≤ t → at_of row t ≡ None
at_none [] t n h le = refl
at_none (p ∷ ps) t n h le =
    let a = h 0 p (omega arith) in
    ap (λ b. cond b (Some p.1) (at_of ps t)) (ne_eqb p.0 t (λ e. omega (arith, a, e, le))) ∙ at_none ps t n (λ i d w. h (suc i) d (omega (arith, w))) le

pub at_new_other : {V : Type 0} (row : List (ℕ × V)) (x : ℕ × V) (t : ℕ) → (x.0 ≡ t → ⊥) → at_of (row ++ x ∷ []) t ≡ at_of row t
at_new_other [] x t ne = ap (λ b. cond b (Some x.1) None) (ne_eqb x.0 t ne)
at_new_other (p ∷ ps) x t ne = ap (λ o. cond (nat_eq p.0 t) (Some p.1) o) (at_new_other ps x t ne)

here_cond : {V : Type 0} (b : Bool) (v w : V) (o n : Option V) → cond b (Some v) o ≡ None → (o ≡ None → n ≡ Some w) → cond b (Some v) n ≡ Some w
here_cond true v w o n e h = cc
here_cond false v w o n e h = h e

pub at_new_here : {V : Type 0} (row : List (ℕ × V)) (x : ℕ × V) → at_of row x.0 ≡ None → at_of (row ++ x ∷ []) x.0 ≡ Some x.1
at_new_here [] x h = ap (λ b. cond b (Some x.1) None) (eq-eqb x.0 x.0 refl)
at_new_here (p ∷ ps) x h = here_cond (nat_eq p.0 x.0) p.1 x.1 (at_of ps x.0) (at_of (ps ++ x ∷ []) x.0) h (λ e. at_new_here ps x e)
