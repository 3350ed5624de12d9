-- The set bits of a list, walked.
use Rattle.std.proofs.Common.{◌≡◌, ℕ, ◌<◌, ◌⊎◌, inl, inr, min, Bool, true, false, List, [], ◌∷◌, length, get_or, Some, sym, ap, ◌∙◌, subst, arith}
use Rattle.std.specs.Prelude.{slice_get, Contains}
use Rattle.std.specs.declared.ops.Bound.TheVariants.{Unbounded}
use Rattle.std.proofs.lemmas.Option.{get_or_from_slice_get, slice_get_within, slice_get-get_or}
use Rattle.table_theory.proofs.CellLists.{contains_nil, contains_head, contains_tail, contains_cases}
use Rattle.vob.specs.Walk.{walk}
use Rattle.vob.proofs.LawLemmas.{walk_exactly}

set_at : (bits : List Bool) (t : ℕ) → t < length bits → get_or bits t false ≡ true → slice_get bits t ≡ Some true
set_at bits t lt e = slice_get-get_or bits t false lt ∙ ap Some e

-- P holds of each set bit that isn't left
pub record SetTo (bits : List Bool) (P : ℕ → Type 0) (left : List ℕ) : Type 0 where
  pub set : (t : ℕ) → Contains left t → slice_get bits t ≡ Some true
  pub done : (t : ℕ) → slice_get bits t ≡ Some true → P t ⊎ Contains left t

module _ (bits : List Bool) (P : ℕ → Type 0) where
  pub set_start : (left : List ℕ) → left ≡ walk true bits Unbounded Unbounded → SetTo bits P left
  set_start left e =
      let m : min (length bits) (length bits) ≡ length bits = omega arith in
      record {
        set = λ t c.
            let k = (walk_exactly true bits 0 (min (length bits) (length bits)) t (omega (arith, m))).0 (subst (λ l. Contains l t) e c) in
            let lt = k.1 in
            set_at bits t (omega (arith, lt, m)) k.2;
        done = λ t at.
            let lt = slice_get_within bits t true at in
            inr (subst (λ l. Contains l t) (sym e) ((walk_exactly true bits 0 (min (length bits) (length bits)) t (omega (arith, m))).1 (omega arith, omega (arith, lt, m), get_or_from_slice_get bits t true false at)));
      }

  pub set_next : (t : ℕ) (left rest : List ℕ) → left ≡ t ∷ rest → SetTo bits P left → slice_get bits t ≡ Some true
  set_next t left rest e h = h.set t (subst (λ l. Contains l t) (sym e) (contains_head t rest))

  pub set_more : (t : ℕ) (left rest : List ℕ) → left ≡ t ∷ rest → P t → SetTo bits P left → SetTo bits P rest
  set_more t left rest e p h = record {
    set = λ u c. h.set u (subst (λ l. Contains l u) (sym e) (contains_tail t u rest c));
    done = λ u at. elim (h.done u at) [
      | inl x ↦ inl x
      | inr c ↦ elim (contains_cases t u rest (subst (λ l. Contains l u) e c)) [
        | inl same ↦ inl (subst P same p)
        | inr d ↦ inr d
      ]
    ];
  }

  pub set_all : (left : List ℕ) → left ≡ [] → SetTo bits P left → (t : ℕ) → slice_get bits t ≡ Some true → P t
  set_all left e h t at = elim (h.done t at) [
    | inl x ↦ x
    | inr c ↦ absurd (contains_nil t (subst (λ l. Contains l t) e c))
  ]
