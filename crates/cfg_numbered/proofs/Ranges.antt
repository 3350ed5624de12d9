-- Ranges of numbers from their first one.
use Rattle.std.proofs.Common.{◌≡◌, ℕ, suc, ◌+◌, ◌-◌, ◌<◌, [], ◌∷◌, ap, arith}
use Rattle.std.specs.List.{range_with_len}

pub range_first : (n end : ℕ) → n < end → range_with_len n (end - n) ≡ n ∷ range_with_len (n + 1) (end - (n + 1))
range_first n end lt = let e : end - n ≡ suc (end - (n + 1)) = omega arith in ap (range_with_len n) e

pub range_none : (n end : ℕ) → n ≡ end → range_with_len n (end - n) ≡ []
range_none n end e = let z : end - n ≡ 0 = omega arith in ap (range_with_len n) z
