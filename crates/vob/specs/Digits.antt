-- A number by its binary digits.
use Rattle.std.specs.Prelude.{ℕ, suc, zero, ◌/◌, ◌%◌, ◌==◌, Bool, List, [], ◌∷◌}

-- the k lowest binary digits of n, the lowest first
unfoldable pub digits : ℕ → ℕ → List Bool
digits zero n = []
digits (suc k) n = (n % 2 == 1) ∷ digits k (n / 2)
