-- Flags, and what is next of those that are set.
use Rattle.std.specs.Prelude.{◌≡◌, ℕ, ◌<◌, ◌≤◌, Bool, true, false, List, length}
use Rattle.vob.specs.Sets.{is_set}

-- what contracts see of flags: these, and numbers that are noted
pub record FlagBits : Type 0 where
  pub bits : List Bool
  pub noted : List ℕ

-- k is the number of the first set flag from one number on
pub record IsLeastFrom (flags : List Bool) (from k : ℕ) : Type 0 where
  pub low : from ≤ k
  pub below : k < length flags
  pub here : is_set flags k ≡ true
  pub none : (j : ℕ) → from ≤ j → j < k → is_set flags j ≡ false
