-- Walks over the flags that are set, and flags that are cleared.
use Rattle.std.proofs.Common.{◌≡◌, ℕ, zero, suc, ◌+◌, ◌-◌, ◌<◌, ◌≤◌, min, inl, inr, Bool, true, false, cond, List, [], ◌∷◌, ◌++◌, length, get_or, set, take, replicate, refl, sym, ap, ap₂, ◌∙◌, subst, arith, get_or-set_same, get_or-set_other, length-set}
use Rattle.std.specs.Prelude.{IsTrue}
use Rattle.std.specs.List.{Contains, filter, range_with_len}
use Rattle.std.specs.declared.ops.Bound.TheVariants.{Unbounded}
use Rattle.std.proofs.lemmas.Bool.{cases_eq}
use Rattle.std.proofs.lemmas.List.{take_all, take_more}
use Rattle.std.proofs.lemmas.List.Elements.{Contains-push_cases}
use Rattle.table_theory.proofs.CellLists.{contains_nil}
use Rattle.vob.specs.Sets.{is_set}
use Rattle.vob.specs.Walk.{has_item, indices_of, walk}
use Rattle.lrtable.specs.FlagWalks.{IsLeastFrom}
use Rattle.lrtable.proofs.Clearing.{set_below}

never : false ≡ true → ⊥
never e = cc

-- a number passes, and none before it: it is the first
first_of : (p : ℕ → Bool) (len n k : ℕ) → n ≤ k → k < n + len → p k ≡ true → ((j : ℕ) → n ≤ j → j < k → p j ≡ false) → filter p (range_with_len n len) ≡ k ∷ filter p (range_with_len (k + 1) (n + len - (k + 1)))
first_of p zero n k low below here none = absurd (omega (arith, low, below))
first_of p (suc len) n k low below here none = elim (cases_eq n k) [
  | inl e ↦
      (let a : n + 1 ≡ k + 1 = omega (arith, e) in
      let b : len ≡ n + suc len - (k + 1) = omega (arith, e) in
      ap (λ t. cond t (n ∷ filter p (range_with_len (n + 1) len)) (filter p (range_with_len (n + 1) len))) (ap p e ∙ here) ∙
      ap₂ (λ x l. x ∷ l) e (ap₂ (λ x m. filter p (range_with_len x m)) a b))
  | inr ne ↦
      (let b : n + 1 + len - (k + 1) ≡ n + suc len - (k + 1) = omega arith in
      ap (λ t. cond t (n ∷ filter p (range_with_len (n + 1) len)) (filter p (range_with_len (n + 1) len))) (none n (omega arith) (omega (arith, low, ne))) ∙
      (first_of p len (n + 1) k (omega (arith, low, ne)) (omega (arith, below)) here (λ j l u. none j (omega (arith, l)) u) ∙ ap (λ m. k ∷ filter p (range_with_len (k + 1) m)) b))
]

none_of : (p : ℕ → Bool) (len n : ℕ) → ((j : ℕ) → n ≤ j → j < n + len → p j ≡ false) → filter p (range_with_len n len) ≡ []
none_of p zero n none = refl
none_of p (suc len) n none =
    ap (λ t. cond t (n ∷ filter p (range_with_len (n + 1) len)) (filter p (range_with_len (n + 1) len))) (none n (omega arith) (omega arith)) ∙
    none_of p len (n + 1) (λ j l u. none j (omega (arith, l)) (omega (arith, u)))

-- the least set flag from a number on, and those behind it
pub least_first : (flags : List Bool) (n k : ℕ) → IsLeastFrom flags n k → indices_of true flags n (length flags) ≡ k ∷ indices_of true flags (k + 1) (length flags)
least_first flags n k h =
    let low = h.low in
    let below = h.below in
    let b : n + (length flags - n) - (k + 1) ≡ length flags - (k + 1) = omega (arith, low, below) in
    first_of (has_item true flags) (length flags - n) n k low (omega (arith, low, below)) h.here h.none ∙ ap (λ m. k ∷ filter (has_item true flags) (range_with_len (k + 1) m)) b

pub none_from : (flags : List Bool) (n : ℕ) → ((j : ℕ) → n ≤ j → j < length flags → is_set flags j ≡ false) → indices_of true flags n (length flags) ≡ []
none_from flags n none = none_of (has_item true flags) (length flags - n) n (λ j l u. none j l (omega (arith, l, u)))

-- from the end on there is none
pub end_from : (flags : List Bool) → indices_of true flags (length flags) (length flags) ≡ []
end_from flags = none_from flags (length flags) (λ j l u. absurd (omega (arith, l, u)))

pub end_walk : (flags : List Bool) (n : ℕ) → n ≡ length flags → indices_of true flags n (min (length flags) (length flags)) ≡ []
end_walk flags n e = none_of (has_item true flags) (min (length flags) (length flags) - n) n (λ j l u. absurd (omega (arith, l, u, e)))

-- the walk over all is the one from zero on
pub whole_walk : (flags : List Bool) → walk true flags Unbounded Unbounded ≡ indices_of true flags 0 (length flags)
whole_walk flags = let m : min (length flags) (length flags) ≡ length flags = omega arith in ap (indices_of true flags 0) m

-- no number from the end on is set
pub none_past : (flags : List Bool) (numbers : List ℕ) (n : ℕ) → n ≡ length flags → (A : ℕ) → n ≤ A → IsTrue (is_set flags A) → Contains numbers A
none_past flags numbers n e A le x = let lt = set_below flags A x in absurd (omega (arith, e, le, lt))

-- ---- the least so far

-- of the numbers looked at, none from one number on is set that is less than the least
pub record LeastSoFar (flags : List Bool) (from : ℕ) (seen : List ℕ) (least : ℕ) : Type 0 where
  pub within : least ≤ length flags
  pub found : least < length flags → (from ≤ least) × (is_set flags least ≡ true)
  pub none : (j : ℕ) → Contains seen j → from ≤ j → j < least → is_set flags j ≡ false

pub least_none : (flags : List Bool) (from n : ℕ) → n ≡ length flags → LeastSoFar flags from [] n
least_none flags from n e = record { within = omega (arith, e); found = λ lt. absurd (omega (arith, e, lt)); none = λ j m. absurd (contains_nil j m) }

-- one more was looked at
pub least_next : (flags : List Bool) (from least new i k : ℕ) (numbers : List ℕ) → i < length numbers → k ≡ get_or numbers i k → LeastSoFar flags from (take i numbers) least → new ≤ least → (new < least → (new ≡ k) × (from ≤ k) × (is_set flags k ≡ true)) → (from ≤ k → k < new → is_set flags k ≡ false) → LeastSoFar flags from (take (i + 1) numbers) new
least_next flags from least new i k numbers lt is h le less here = subst (λ (l : List ℕ). LeastSoFar flags from l new) (sym more) (record {
  within = (let w = h.within in omega (arith, w, le));
  found = λ b. found b;
  none = λ j m l u. elim (Contains-push_cases (take i numbers) k j m) [ inl y ↦ h.none j y l (omega (arith, u, le)) | inr e ↦ subst (λ x. is_set flags x ≡ false) e (here (omega (arith, l, e)) (omega (arith, u, e))) ];
})
  where
    more : take (i + 1) numbers ≡ take i numbers ++ k ∷ []
    more = take_more numbers i k lt ∙ ap (λ x. take i numbers ++ x ∷ []) (sym is)

    found : new < length flags → (from ≤ new) × (is_set flags new ≡ true)
    found b = elim (cases_eq new least) [
      | inl e ↦ (let f = h.found (omega (arith, b, e)) in let l = f.0 in (omega (arith, l, e), ap (is_set flags) e ∙ f.1))
      | inr ne ↦ (let f = less (omega (arith, le, ne)) in let l = f.1 in let e = f.0 in (omega (arith, l, e), ap (is_set flags) e ∙ f.2))
    ]

unset : (b : Bool) → (b ≡ true → ⊥) → b ≡ false
unset true h = absurd (h refl)
unset false h = refl

-- all were looked at
pub least_all : (flags : List Bool) (from least : ℕ) (numbers : List ℕ) → ((A : ℕ) → from ≤ A → IsTrue (is_set flags A) → Contains numbers A) → LeastSoFar flags from numbers least → (j : ℕ) → from ≤ j → j < least → is_set flags j ≡ false
least_all flags from least numbers all h j l u = unset (is_set flags j) (λ x. never (sym (h.none j (all j l x) l u) ∙ x))

-- ---- flags that are cleared

pub record ClearedSoFar (first : List Bool) (numbers : List ℕ) (flags : List Bool) : Type 0 where
  pub width : length flags ≡ length first
  pub kept : (A : ℕ) → IsTrue (is_set flags A) → IsTrue (is_set first A)
  pub cleared : (A : ℕ) → Contains numbers A → IsTrue (is_set flags A) → ⊥

pub cleared_none : (flags : List Bool) → ClearedSoFar flags [] flags
cleared_none flags = record { width = refl; kept = λ A x. x; cleared = λ A m. absurd (contains_nil A m) }

pub cleared_next : (first flags new : List Bool) (numbers : List ℕ) (i k : ℕ) → i < length numbers → k ≡ get_or numbers i k → k < length flags → new ≡ set flags k false → ClearedSoFar first (take i numbers) flags → ClearedSoFar first (take (i + 1) numbers) new
cleared_next first flags new numbers i k lt is within e h = subst (λ (l : List ℕ). ClearedSoFar first l new) (sym more) (record {
  width = ap length e ∙ (length-set flags k false ∙ h.width);
  kept = λ A x. h.kept A (was A x);
  cleared = λ A m x. elim (Contains-push_cases (take i numbers) k A m) [ inl y ↦ h.cleared A y (was A x) | inr q ↦ gone A (sym q) x ];
})
  where
    more : take (i + 1) numbers ≡ take i numbers ++ k ∷ []
    more = take_more numbers i k lt ∙ ap (λ x. take i numbers ++ x ∷ []) (sym is)

    gone : (A : ℕ) → A ≡ k → IsTrue (is_set new A) → ⊥
    gone A q x = never (sym (ap (λ l. is_set l A) e ∙ (ap (is_set (set flags k false)) q ∙ get_or-set_same flags k false false within)) ∙ x)

    was : (A : ℕ) → IsTrue (is_set new A) → IsTrue (is_set flags A)
    was A x = elim (cases_eq A k) [ inl q ↦ absurd (gone A q x) | inr ne ↦ sym (get_or-set_other flags k A false false ne) ∙ (sym (ap (λ l. is_set l A) e) ∙ x) ]

none_left : (flags : List Bool) → ((A : ℕ) → IsTrue (is_set flags A) → ⊥) → flags ≡ replicate (length flags) false
none_left [] h = refl
none_left (true ∷ flags) h = absurd (h 0 refl)
none_left (false ∷ flags) h = ap (λ (l : List Bool). false ∷ l) (none_left flags (λ A x. h (suc A) x))

pub cleared_all : (first flags : List Bool) (numbers : List ℕ) (i : ℕ) → length numbers ≤ i → ((A : ℕ) → IsTrue (is_set first A) → Contains numbers A) → ClearedSoFar first (take i numbers) flags → flags ≡ replicate (length first) false
cleared_all first flags numbers i end all h = none_left flags (λ A x. h.cleared A (subst (λ (l : List ℕ). Contains l A) (sym (take_all i numbers end)) (all A (h.kept A x))) x) ∙ ap (λ n. replicate n false) h.width
