-- Flags that stand for the numbers at which something may be.
use Rattle.std.specs.Prelude.{◌≡◌, ℕ, ◌<◌, Bool, false, List, length}
use Rattle.vob.specs.Sets.{is_set}

-- numbers were marked: P is so of each that stays without a mark
pub record LeavesOut (P : ℕ → Type 0) (old new : List Bool) : Type 0 where
  pub width : length new ≡ length old
  pub before : (n : ℕ) → n < length old → is_set new n ≡ false → is_set old n ≡ false
  pub rest : (n : ℕ) → n < length old → is_set new n ≡ false → P n
