-- Edges to new numbers in a state, and the states taken out in order.
use Rattle.std.proofs.Common.{◌≡◌, ℕ, zero, suc, ◌+◌, ◌<◌, ◌≤◌, List, [], ◌∷◌, ◌++◌, length, get_or, map, take, drop, refl, ap, ◌∙◌, arith}
use Rattle.std.specs.List.{AllPairs}
use Rattle.lrtable.specs.States.{StateValue, state_at}

-- what is read where the first i elements were changed
pub not_yet : {X : Type 0} (f : X → X) (xs ys : List X) (i : ℕ) (d : X) → i < length xs → ys ≡ map f (take i xs) ++ drop i xs → get_or ys i d ≡ get_or xs i d
not_yet f [] ys i d lt e = absurd (omega (arith, lt))
not_yet f (x ∷ xs) ys zero d lt e = ap (λ l. get_or l zero d) e
not_yet f (x ∷ xs) ys (suc i) d lt e = ap (λ l. get_or l (suc i) d) e ∙ not_yet f xs (map f (take i xs) ++ drop i xs) i d (omega (arith, lt)) refl

pub same_length : {X : Type 0} (f : X → X) (xs : List X) (i : ℕ) → length (map f (take i xs) ++ drop i xs) ≡ length xs
same_length f xs zero = refl
same_length f [] (suc i) = refl
same_length f (x ∷ xs) (suc i) = ap suc (same_length f xs i)

-- all were changed
pub all_changed : {X : Type 0} (f : X → X) (xs : List X) (i : ℕ) → length xs ≤ i → map f (take i xs) ++ drop i xs ≡ map f xs
all_changed f [] zero le = refl
all_changed f [] (suc i) le = refl
all_changed f (x ∷ xs) zero le = absurd (omega (arith, le))
all_changed f (x ∷ xs) (suc i) le = ap (λ l. f x ∷ l) (all_changed f xs i (omega (arith, le)))

-- ---- states taken out in order

-- after one more was taken out, those to come are as they were
pub left_next : (first old new : List StateValue) (kept : List ℕ) (i n : ℕ) → AllPairs (λ j k. j < k) kept → i < length kept → n ≡ get_or kept i n → ((j : ℕ) → i ≤ j → j < length kept → state_at old (get_or kept j 0) ≡ state_at first (get_or kept j 0)) →
    ((r : ℕ) → (r ≡ n → ⊥) → state_at new r ≡ state_at old r) → (j : ℕ) → i + 1 ≤ j → j < length kept → state_at new (get_or kept j 0) ≡ state_at first (get_or kept j 0)
left_next first old new kept i n ascends lt is before left j le within = left (get_or kept j 0) apart ∙ before j (omega (arith, le)) within
  where
    apart : get_or kept j 0 ≡ n → ⊥
    apart e = let a = ascends i j n (omega (arith, le)) within in let d = same kept j 0 n within in omega (arith, a, e, is, d)
      where
        same : (l : List ℕ) (k x y : ℕ) → k < length l → get_or l k x ≡ get_or l k y
        same [] k x y lt = absurd (omega (arith, lt))
        same (z ∷ l) zero x y lt = refl
        same (z ∷ l) (suc k) x y lt = same l k x y (omega (arith, lt))
