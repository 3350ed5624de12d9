-- Lists of clones say the same.
use Rattle.std.proofs.Common.{◌≡◌, List, [], ◌∷◌, map, refl}
use Rattle.std.specs.List.{AllZip}

pub clones_map : {X Y : Type 0} (R : X → X → Type 0) (f : X → Y) → ((x y : X) → R x y → f y ≡ f x) → (xs ys : List X) → AllZip R xs ys → map f ys ≡ map f xs
clones_map R f same [] [] h = refl
clones_map R f same [] (y ∷ ys) h = absurd h
clones_map R f same (x ∷ xs) [] h = absurd h
clones_map R f same (x ∷ xs) (y ∷ ys) h = λ i. same x y h.0 i ∷ clones_map R f same xs ys h.1 i
