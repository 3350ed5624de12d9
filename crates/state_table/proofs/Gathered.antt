-- Lists gathered over numbers.
use Rattle.std.proofs.Common.{◌≡◌, ℕ, zero, suc, ◌+◌, ◌<◌, List, ◌++◌, refl, sym, ap, ap₂, ◌∙◌, arith, append_assoc}
use Rattle.table_theory.specs.Cells.{gathered}

pub gathered_more : {A : Type 0} (f : ℕ → List A) (n : ℕ) → gathered f (n + 1) ≡ gathered f n ++ f n
gathered_more f n = let e : n + 1 ≡ suc n = omega arith in ap (λ m. gathered f m) e

-- a list to which one number's part is put
pub gathered_put : {A : Type 0} (f : ℕ → List A) (n m : ℕ) (before old new : List A) → old ≡ before ++ gathered f n → m ≡ n → new ≡ old ++ f m → new ≡ before ++ gathered f (n + 1)
gathered_put f n m before old new eo em en =
    en ∙ (ap (λ k. old ++ f k) em ∙ (ap (λ l. l ++ f n) eo ∙ (append_assoc before (gathered f n) (f n) ∙ ap (λ l. before ++ l) (sym (gathered_more f n)))))

-- lists gathered of the same parts
pub gathered_same : {A : Type 0} (f g : ℕ → List A) (n : ℕ) → ((k : ℕ) → k < n → f k ≡ g k) → gathered f n ≡ gathered g n
gathered_same f g zero h = refl
gathered_same f g (suc n) h = ap₂ (λ x y. x ++ y) (gathered_same f g n (λ k lt. h k (omega (arith, lt)))) (h n (omega arith))
