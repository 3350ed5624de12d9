-- A list that is overwritten from its front.
use Rattle.std.proofs.Common.{◌≡◌, ℕ, zero, suc, ◌<◌, List, [], ◌∷◌, ◌++◌, length, take, drop, set, map, Some, ap, ◌∙◌, arith}
use Rattle.std.specs.List.{slice_get}

step : {X : Type 0} (i : ℕ) (xs ys : List X) (x : X) → slice_get xs i ≡ Some x → i < length ys → set (take i xs ++ drop i ys) i x ≡ take (suc i) xs ++ drop (suc i) ys
step zero [] ys x e lt = cc
step zero (a ∷ xs) [] x e lt = grind (arith, lt)
step zero (a ∷ xs) (b ∷ ys) x e lt = cc
step (suc i) [] ys x e lt = cc
step (suc i) (a ∷ xs) [] x e lt = grind (arith, lt)
step (suc i) (a ∷ xs) (b ∷ ys) x e lt = ap (λ l. a ∷ l) (step i xs ys x e (omega (arith, lt)))

-- the next one is stored behind those that are
pub stores_next : {X : Type 0} (i j : ℕ) (xs ys zs : List X) (x y : X) → slice_get xs i ≡ Some x → i < length ys → zs ≡ take i xs ++ drop i ys → j ≡ suc i → y ≡ x → set zs i y ≡ take j xs ++ drop j ys
stores_next i j xs ys zs x y e lt is next same = rw (next, same) (ap (λ l. set l i x) is ∙ step i xs ys x e lt)

pub mapped_get : {X Y : Type 0} (f : X → Y) (xs : List X) (i : ℕ) (x : X) → slice_get xs i ≡ Some x → slice_get (map f xs) i ≡ Some (f x)
mapped_get f [] zero x e = cc
mapped_get f [] (suc i) x e = cc
mapped_get f (a ∷ xs) zero x e = cc
mapped_get f (a ∷ xs) (suc i) x e = mapped_get f xs i x e
