-- Lists of which each entry was tested.
use Rattle.std.proofs.Common.{◌≡◌, ℕ, zero, suc, ◌+◌, ◌<◌, List, [], ◌∷◌, length, take, get_or, subst, arith}
use Rattle.std.specs.List.{AllByRecursion}

pub one_more : {X : Type 0} (P : X → Type 0) (xs : List X) (k : ℕ) (x : X) → k < length xs → x ≡ get_or xs k x → AllByRecursion P (take k xs) → P x → AllByRecursion P (take (k + 1) xs)
one_more P [] k x lt e all p = absurd (omega arith)
one_more P (y ∷ xs) zero x lt e all p = (subst P e p, tt)
one_more P (y ∷ xs) (suc k) x lt e all p =
    let n : suc (k + 1) ≡ suc k + 1 = omega arith in
    subst (λ j. AllByRecursion P (take j (y ∷ xs))) n (all.0, one_more P xs k x (omega (arith, lt)) e all.1 p)
