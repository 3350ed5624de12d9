-- Rows that only reduce, by one production.
use Rattle.std.proofs.Common.{◌≡◌, ℕ, suc, ◌+◌, ◌<◌, ◌≤◌, Bool, true, false, cond, nat_eq, List, [], ◌∷◌, length, get_or, Option, Some, None, inl, inr, refl, sym, ap, ◌∙◌, subst, arith}
use Rattle.std.specs.Prelude.{◌↔◌, IsTrue}
use Rattle.std.proofs.lemmas.Bool.{cases_lt}
use Rattle.std.proofs.lemmas.List.{get_or-map, get_or_past, length-map}
use Rattle.lr_theory.specs.Automaton.{Action}
use Rattle.state_table.specs.Rows.{at_of}
use Rattle.state_table.specs.SparseRows.{or_error, IsCellRow, AllReduce, RowReduces, full_cells}
use Rattle.state_table.specs.declared.cells.Action.{Action as TableAction}
use Rattle.state_table.specs.CellViews.{action_of, cells_of}
use Rattle.state_table.specs.TableValues.{TableValue, action_at, is_filled, ReducesOnly}
use Rattle.state_table.proofs.RowsAt.{at_index}
use Rattle.std.proofs.lemmas.List.FromFn.{length-map-range_with_len, get_or-map-range_with_len}

-- an entry that is found
found_cond : {V : Type 0} (b : Bool) (v a : V) (o : Option V) (P : V → Type 0) → P v → (o ≡ Some a → P a) → cond b (Some v) o ≡ Some a → P a
found_cond true v a o P h k e = let f : v ≡ a = cc in subst P f h
found_cond false v a o P h k e = k e

pub found_is : {V : Type 0} (P : V → Type 0) (row : List (ℕ × V)) (t : ℕ) (a : V) → ((i : ℕ) (d : ℕ × V) → i < length row → P (get_or row i d).1) → at_of row t ≡ Some a → P a
found_is P [] t a all e = cc
found_is P (x ∷ row) t a all e = found_cond (nat_eq x.0 t) x.1 a (at_of row t) P (all 0 x (omega arith)) (λ f. found_is P row t a (λ i d w. all (suc i) d (omega (arith, w))) f) e

pub is_filled_other : (a : Action) → (a ≡ Action.error → ⊥) → is_filled a ≡ true
is_filled_other (Action.shift k) ne = refl
is_filled_other (Action.reduce p) ne = refl
is_filled_other Action.accept ne = refl
is_filled_other Action.error ne = absurd (ne refl)

error_empty : (a b : Action) → a ≡ b → b ≡ Action.error → is_filled a ≡ true → ⊥
error_empty a b e f h = let g : is_filled Action.error ≡ true = subst (λ (x : Action). is_filled x ≡ true) (e ∙ f) h in cc

module _ (v : TableValue) (s : ℕ) (row : List (ℕ × Action)) (whole : get_or v.actions s [] ≡ full_cells v.tokens row) (is : IsCellRow v.tokens row) where
  pub cell : (t : ℕ) → t < v.tokens → action_at v s t ≡ or_error (at_of row t)
  cell t lt = ap (λ (r : List Action). get_or r t Action.error) whole ∙ get_or-map-range_with_len (λ (u : ℕ). or_error (at_of row u)) 0 v.tokens t t Action.error lt (omega arith)

  past : (t : ℕ) → v.tokens ≤ t → action_at v s t ≡ Action.error
  past t le =
      let n = length-map-range_with_len (λ (u : ℕ). or_error (at_of row u)) 0 v.tokens in
      ap (λ (r : List Action). get_or r t Action.error) whole ∙ get_or_past (full_cells v.tokens row) t Action.error (omega (arith, n, le))

  only_found : (p t : ℕ) (o : Option Action) → RowReduces row p → at_of row t ≡ o → is_filled (or_error o) ≡ true → or_error o ≡ Action.reduce p
  only_found p t None r e h = cc
  only_found p t (Some a) r e h = found_is (λ (b : Action). b ≡ Action.reduce p) row t a r.only e

  pub only_reduces : (p : ℕ) → RowReduces row p → ReducesOnly v s p
  only_reduces p r =
      let d : ℕ × Action = (0, Action.error) in
      let some = r.some in
      let t = (get_or row 0 d).0 in
      let lt = is.below 0 d some in
      record {
        token = t;
        some = cell t lt ∙ (ap or_error (at_index row 0 d is.rises some) ∙ r.only 0 d some);
        only = λ u h. elim (cases_lt u v.tokens) [
          | inl l ↦ cell u l ∙ only_found p u (at_of row u) r refl (subst (λ (a : Action). is_filled a ≡ true) (cell u l) h)
          | inr ge ↦ absurd (error_empty (action_at v s u) Action.error (past u ge) refl h)
        ];
      }

  nonempty : (p t : ℕ) (r : List (ℕ × Action)) → or_error (at_of r t) ≡ Action.reduce p → 0 < length r
  nonempty p t [] e = cc
  nonempty p t (x ∷ r) e = omega arith

  reduce_filled : (p : ℕ) → is_filled (Action.reduce p) ≡ true
  reduce_filled p = refl

  pub reduces_only : (p : ℕ) → ReducesOnly v s p → RowReduces row p
  reduces_only p r =
      let filled = subst (λ (a : Action). is_filled a ≡ true) (sym r.some) (reduce_filled p) in
      record {
        some = elim (cases_lt r.token v.tokens) [
          | inl l ↦ nonempty p r.token row (sym (cell r.token l) ∙ r.some)
          | inr ge ↦ absurd (error_empty (action_at v s r.token) Action.error (past r.token ge) refl filled)
        ];
        only = λ i d w.
            let t = (get_or row i d).0 in
            let here : action_at v s t ≡ (get_or row i d).1 = cell t (is.below i d w) ∙ ap or_error (at_index row i d is.rises w) in
            sym here ∙ r.only t (subst (λ (a : Action). is_filled a ≡ true) (sym here) (is_filled_other (get_or row i d).1 (is.filled i d w)));
      }

module _ {S : Type 0} (number : S → ℕ) (row : List (ℕ × TableAction S)) (i : ℕ) (x : ℕ × TableAction S) (lt : i < length row) (at : x ≡ get_or row i x) where
  abbrev cells : List (ℕ × Action)
  cells = cells_of number row

  within : i < length cells
  within = let f : ℕ × TableAction S → ℕ × Action = λ e. (e.0, action_of number e.1) in let n = length-map row f in omega (arith, n, lt)

  entry : (d : ℕ × Action) → get_or cells i d ≡ (x.0, action_of number x.1)
  entry d = let f : ℕ × TableAction S → ℕ × Action = λ e. (e.0, action_of number e.1) in get_or-map f row i x d lt ∙ ap f (sym at)

  -- what the entry does where all reduce
  pub entry_reduces : (p : ℕ) → AllReduce cells p → action_of number x.1 ≡ Action.reduce p
  entry_reduces p all = sym (ap (λ (e : ℕ × Action). e.1) (entry (0, Action.error))) ∙ all i (0, Action.error) within

  pub all_next : (p : ℕ) → action_of number x.1 ≡ Action.reduce p → ((j : ℕ) (d : ℕ × Action) → j < i → j < length cells → (get_or cells j d).1 ≡ Action.reduce p) → (j : ℕ) (d : ℕ × Action) → j < i + 1 → j < length cells → (get_or cells j d).1 ≡ Action.reduce p
  all_next p here before j d l w = elim (cases_lt j i) [
    | inl h ↦ before j d h w
    | inr ge ↦ (let e : j ≡ i = omega (arith, l, ge) in ap (λ k. (get_or cells k d).1) e ∙ (ap (λ (y : ℕ × Action). y.1) (entry d) ∙ here))
  ]

-- by the first entry
module _ {S : Type 0} (number : S → ℕ) (row : List (ℕ × TableAction S)) (x : ℕ × TableAction S) (lt : 0 < length row) (at : x ≡ get_or row 0 x) where
  pub by_first : (q : ℕ) → action_of number x.1 ≡ Action.reduce q → (b : Bool) → (IsTrue b ↔ AllReduce (cells_of number row) q) → IsTrue b ↔ ((p : ℕ) × RowReduces (cells_of number row) p)
  by_first q e b iff = (
    λ h. (q, record { some = within number row 0 x lt at; only = iff.0 h }),
    λ r. iff.1 (subst (AllReduce (cells_of number row)) (same r.0 (sym (entry_reduces number row 0 x lt at r.0 r.1.only) ∙ e)) r.1.only),
  )
    where
      same : (p : ℕ) → Action.reduce p ≡ Action.reduce q → p ≡ q
      same p f = cc

  pub not_first : ((p : ℕ) → action_of number x.1 ≡ Action.reduce p → ⊥) → (p : ℕ) → RowReduces (cells_of number row) p → ⊥
  not_first h p r = h p (entry_reduces number row 0 x lt at p r.only)
