-- Names by their indices, and lists in which no name stands twice.
use Rattle.std.proofs.Common.{◌≡◌, ℕ, zero, suc, ◌+◌, ◌<◌, ◌≤◌, inl, inr, Bool, true, false, List, [], ◌∷◌, ◌++◌, length, get_or, Some, None, Contains, slice_get, refl, sym, ap, ◌∙◌, arith}
use Rattle.std.specs.List.{list_any, position_or_len}
use Rattle.std.specs.Str.{bytes_eq}
use Rattle.std.proofs.lemmas.Bool.{cases_Bool}
use Rattle.std.proofs.lemmas.List.Folds.{list_any_at}
use Rattle.std.proofs.lemmas.Slice.Eq.{bytes_eq-Decides}
use Rattle.std.proofs.lemmas.Option.{slice_get_within, get_or_from_slice_get}
use Rattle.cfg_read.specs.WellFormedAst.{AreDistinct}
use Rattle.cfgrammar.specs.FromAst.{index_in}

module _ {X : Type 0} (p : X → Bool) where
  -- the first that passes stands no later than one that does
  pub no_later : (xs : List X) (k : ℕ) (d : X) → k < length xs → p (get_or xs k d) ≡ true → position_or_len p xs ≤ k
  no_later [] k d lt e = absurd (omega (arith, lt))
  no_later (x ∷ xs) k d lt e = elim (cases_Bool (p x)) [ inl t ↦ here t | inr f ↦ on k lt e f (λ j a b. no_later xs j d a b) ]
    where
      here : p x ≡ true → position_or_len p (x ∷ xs) ≤ k
      here t = let z : position_or_len p (x ∷ xs) ≡ 0 = rw t refl in omega (arith, z)

      on : (k : ℕ) → k < suc (length xs) → p (get_or (x ∷ xs) k d) ≡ true → p x ≡ false → ((j : ℕ) → j < length xs → p (get_or xs j d) ≡ true → position_or_len p xs ≤ j) → position_or_len p (x ∷ xs) ≤ k
      on zero lt e f more = absurd (both (p x) e f)
        where
          both : (b : Bool) → b ≡ true → b ≡ false → ⊥
          both b s t = cc
      on (suc k) lt e f more =
          let s : position_or_len p (x ∷ xs) ≡ 1 + position_or_len p xs = rw f refl in
          let le : position_or_len p xs ≤ k = more k (omega (arith, lt)) e in
          omega (arith, s, le)

-- a name of the list has an index in it
pub index_in_within : (names : List (List ℕ)) (name : List ℕ) → Contains names name → index_in names name < length names
index_in_within names name h =
    let lt = h.1 in
    let le = no_later (bytes_eq name) names h.0 name h.1 ((bytes_eq-Decides name (get_or names h.0 name)).1 (sym h.2)) in
    omega (arith, lt, le)

-- the name stands nowhere in the list
abbrev pub IsAbsent : List ℕ → List (List ℕ) → Type 0
IsAbsent name names = (i : ℕ) → slice_get names i ≡ Some name → ⊥

pub absent : (name : List ℕ) (names : List (List ℕ)) → list_any (bytes_eq name) names ≡ false → IsAbsent name names
absent name names e = λ i at.
    let lt = slice_get_within names i name at in
    let is = get_or_from_slice_get names i name name at in
    apart (list_any (bytes_eq name) names) (list_any_at (bytes_eq name) names i name lt ((bytes_eq-Decides name (get_or names i name)).1 (sym is))) e
  where
    apart : (b : Bool) → b ≡ true → b ≡ false → ⊥
    apart b s t = cc

none_some : {X : Type 0} (x : X) → None ≡ Some x → ⊥
none_some x e = cc

pub same_some : {X : Type 0} (x y : X) → Some x ≡ Some y → x ≡ y
same_some x y e = cc

pub distinct_none : AreDistinct []
distinct_none = λ i j name a b. absurd (none_some name a)

pub distinct_cons : (name : List ℕ) (names : List (List ℕ)) → IsAbsent name names → AreDistinct names → AreDistinct (name ∷ names)
distinct_cons name names out apart = go
  where
    go : (i j : ℕ) (n : List ℕ) → slice_get (name ∷ names) i ≡ Some n → slice_get (name ∷ names) j ≡ Some n → i ≡ j
    go zero zero n a b = refl
    go zero (suc j) n a b = absurd (out j (b ∙ sym a))
    go (suc i) zero n a b = absurd (out i (a ∙ sym b))
    go (suc i) (suc j) n a b = ap suc (apart i j n a b)

pub distinct_head : (name : List ℕ) (names : List (List ℕ)) → AreDistinct (name ∷ names) → IsAbsent name names
distinct_head name names d = λ i at. differ i (d zero (suc i) name refl at)
  where
    differ : (i : ℕ) → zero ≡ suc i → ⊥
    differ i e = omega (arith, e)

pub distinct_tail : (name : List ℕ) (names : List (List ℕ)) → AreDistinct (name ∷ names) → AreDistinct names
distinct_tail name names d = λ i j n a b. less i j (d (suc i) (suc j) n a b)
  where
    less : (i j : ℕ) → suc i ≡ suc j → i ≡ j
    less i j e = omega (arith, e)

-- a name is absent from a list with one more where it is absent and isn't that one
pub absent_push : (name last : List ℕ) (names : List (List ℕ)) → IsAbsent name names → (last ≡ name → ⊥) → IsAbsent name (names ++ last ∷ [])
absent_push name last [] out other = one
  where
    one : (i : ℕ) → slice_get (last ∷ []) i ≡ Some name → ⊥
    one zero at = other (same_some last name at)
    one (suc i) at = none_some name at
absent_push name last (n ∷ names) out other = step (absent_push name last names (λ j a. out (suc j) a) other)
  where
    step : IsAbsent name (names ++ last ∷ []) → (i : ℕ) → slice_get (n ∷ (names ++ last ∷ [])) i ≡ Some name → ⊥
    step rest zero at = out zero at
    step rest (suc i) at = rest i at

pub distinct_push : (last : List ℕ) (names : List (List ℕ)) → AreDistinct names → IsAbsent last names → AreDistinct (names ++ last ∷ [])
distinct_push last [] d out = distinct_cons last [] (λ i a. none_some last a) distinct_none
distinct_push last (n ∷ names) d out =
    distinct_cons n (names ++ last ∷ [])
    (absent_push n last names (distinct_head n names d) (λ e. out zero (ap Some (sym e))))
    (distinct_push last names (distinct_tail n names d) (λ i a. out (suc i) a))
