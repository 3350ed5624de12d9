-- Values that are told apart by a number, in its order and each once.
use Rattle.std.proofs.Common.{◌≡◌, ℕ, ◌+◌, ◌<◌, ◌↔◌, Bool, true, false, cond, eqb, List, [], ◌∷◌, length, get_or, map, Contains, IsPermutation, IsSorted, sym, ap, ◌∙◌, refl, subst, arith}
use Rattle.std.proofs.lemmas.List.{get_or-map, length-map}
use Rattle.std.proofs.lemmas.List.Kept.{Contains-dedup_nat, Contains-from_dedup}
use Rattle.std.proofs.lemmas.List.Sorted.{Contains-permutation, IsPermutation-map, IsPermutation-sym}
use Rattle.std.proofs.lemmas.Map.Keys.{IsStrictlyIncreasing-dedup}
use Rattle.std.specs.List.{dedup, dedup_from}
use Rattle.std.specs.List.Sorted.{IsStrictlyIncreasing}
use Rattle.std.specs.Ordering.{nat_cmp, is_lt}

module _ {X : Type 0} (n : X → ℕ) where
  map_cond : (b : Bool) (xs ys : List X) → map n (cond b xs ys) ≡ cond b (map n xs) (map n ys)
  map_cond true xs ys = refl
  map_cond false xs ys = refl

  map_dedup_from : (k : X) (xs : List X) → map n (dedup_from (λ x y. eqb (n x) (n y)) k xs) ≡ dedup_from eqb (n k) (map n xs)
  map_dedup_from k [] = refl
  map_dedup_from k (x ∷ xs) =
      let b = eqb (n x) (n k) in
      map_cond b (dedup_from (λ x y. eqb (n x) (n y)) k xs) (k ∷ dedup_from (λ x y. eqb (n x) (n y)) x xs)
      ∙ ap (λ (l : List ℕ). cond b l (n k ∷ map n (dedup_from (λ x y. eqb (n x) (n y)) x xs))) (map_dedup_from k xs)
      ∙ ap (λ (l : List ℕ). cond b (dedup_from eqb (n k) (map n xs)) (n k ∷ l)) (map_dedup_from x xs)

  map_dedup : (xs : List X) → map n (dedup (λ x y. eqb (n x) (n y)) xs) ≡ dedup eqb (map n xs)
  map_dedup [] = refl
  map_dedup (x ∷ xs) = map_dedup_from x xs

  map_sorted : (xs : List X) → IsSorted (λ x y. nat_cmp (n x) (n y)) xs → IsSorted nat_cmp (map n xs)
  map_sorted [] h = λ k d low lt. absurd (omega (arith, lt))
  map_sorted (x ∷ xs) h = λ k d low lt.
      let long : length (map n (x ∷ xs)) ≡ length (x ∷ xs) = length-map (x ∷ xs) n in
      let next : k + 1 < length (x ∷ xs) = omega (arith, lt, long) in
      let this : k < length (x ∷ xs) = omega (arith, lt, long) in
      ap (λ (m : ℕ). is_lt (nat_cmp m (get_or (map n (x ∷ xs)) k d))) (get_or-map n (x ∷ xs) (k + 1) x d next)
      ∙ ap (λ (m : ℕ). is_lt (nat_cmp (n (get_or (x ∷ xs) (k + 1) x)) m)) (get_or-map n (x ∷ xs) k x d this)
      ∙ h k x low next

  -- of a sorted list the numbers rise
  pub numbers_rise : (ys zs : List X) → zs ≡ dedup (λ x y. eqb (n x) (n y)) ys → IsSorted (λ x y. nat_cmp (n x) (n y)) ys → IsStrictlyIncreasing (map n zs)
  numbers_rise ys zs is sorted = subst IsStrictlyIncreasing (sym (ap (map n) is ∙ map_dedup ys)) (IsStrictlyIncreasing-dedup (map n ys) (map_sorted ys sorted))

  -- and they are those that were there
  pub numbers_stay : (xs ys zs : List X) (ns : List ℕ) → IsPermutation xs ys → zs ≡ dedup (λ x y. eqb (n x) (n y)) ys → map n xs ≡ ns → (m : ℕ) → Contains (map n zs) m ↔ Contains ns m
  numbers_stay xs ys zs ns moved is same m =
      let of = ap (map n) is ∙ map_dedup ys in
      let shuffled = IsPermutation-map n xs ys moved in (
        λ h. subst (λ (l : List ℕ). Contains l m) same (Contains-permutation (map n ys) (map n xs) m (IsPermutation-sym (map n xs) (map n ys) shuffled) (Contains-from_dedup eqb (map n ys) m (subst (λ (l : List ℕ). Contains l m) of h))),
        λ h. subst (λ (l : List ℕ). Contains l m) (sym of) (Contains-dedup_nat (map n ys) m (Contains-permutation (map n xs) (map n ys) m shuffled (subst (λ (l : List ℕ). Contains l m) (sym same) h))),
      )
