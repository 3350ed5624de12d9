-- Lists of which each entry was tested.
use Rattle.std.proofs.Common.{◌≡◌, ℕ, zero, suc, ◌+◌, ◌<◌, List, [], ◌∷◌, map, length, take, get_or, sym, ap, subst, arith}
use Rattle.std.specs.List.{AllByRecursion}

pub one_more : {X Y : Type 0} (P : Y → Type 0) (f : X → Y) (xs : List X) (k : ℕ) (x : X) → k < length xs → x ≡ get_or xs k x → AllByRecursion P (map f (take k xs)) → P (f x) → AllByRecursion P (map f (take (k + 1) xs))
one_more P f [] k x lt e all p = absurd (omega arith)
one_more P f (y ∷ xs) zero x lt e all p = (subst (λ z. P (f z)) e p, tt)
one_more P f (y ∷ xs) (suc k) x lt e all p =
    let n : suc (k + 1) ≡ suc k + 1 = omega arith in
    subst (λ j. AllByRecursion P (map f (take j (y ∷ xs)))) n (all.0, one_more P f xs k x (omega (arith, lt)) e all.1 p)
