-- Numbers whose bits are set.
use Rattle.std.proofs.Common.{◌≡◌, ℕ, ◌+◌, Bool, cond, List, [], ◌∷◌, ◌++◌, ap, ◌∙◌, add-one}
use Rattle.lrlex.specs.Lexing.{numbers_below}

-- one more number, which passes or doesn't
pub next_number : (p : ℕ → Bool) (n : ℕ) (xs ys : List ℕ) (b : Bool) → xs ≡ numbers_below p n → b ≡ p n → ys ≡ xs ++ cond b (n ∷ []) [] → ys ≡ numbers_below p (n + 1)
next_number p n xs ys b so is e = rw add-one (e ∙ ap (λ l. l ++ cond b (n ∷ []) []) so ∙ ap (λ c. numbers_below p n ++ cond c (n ∷ []) []) is)
