-- What is left of a list from an index on.
use Rattle.std.proofs.Common.{◌≡◌, ℕ, zero, suc, ◌+◌, ◌<◌, List, [], ◌∷◌, length, get_or, drop, Some, sym, ap, ◌∙◌, arith}
use Rattle.std.specs.Prelude.{slice_get}

-- the entry at an index and those behind it
pub drop_at : {X : Type 0} (xs : List X) (k : ℕ) (x : X) → slice_get xs k ≡ Some x → drop k xs ≡ x ∷ drop (k + 1) xs
drop_at [] k x e = cc
drop_at (y ∷ xs) zero x e = ap (λ z. z ∷ xs) (some_same y x e)
  where
    some_same : {Y : Type 0} (u w : Y) → Some u ≡ Some w → u ≡ w
    some_same u w h = cc
drop_at (y ∷ xs) (suc k) x e =
    let n : suc (k + 1) ≡ suc k + 1 = omega arith in
    drop_at xs k x e ∙ ap (λ j. x ∷ drop j (y ∷ xs)) n

-- the same of one that was read there
pub drop_read : {X : Type 0} (xs : List X) (k : ℕ) (x : X) → k < length xs → x ≡ get_or xs k x → drop k xs ≡ x ∷ drop (k + 1) xs
drop_read [] k x lt e = absurd (omega arith)
drop_read (y ∷ xs) zero x lt e = ap (λ z. z ∷ xs) (sym e)
drop_read (y ∷ xs) (suc k) x lt e =
    let n : suc k + 1 ≡ suc (k + 1) = omega arith in
    drop_read xs k x (omega arith) e ∙ ap (λ j. x ∷ drop j (y ∷ xs)) (sym n)
