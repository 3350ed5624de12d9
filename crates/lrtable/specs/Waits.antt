-- The rules that wait to be taken.
use Rattle.std.specs.Prelude.{◌≡◌, ℕ, ◌+◌, ◌≤◌, ◌⊎◌, List, length}
use Rattle.std.specs.List.{Contains}

-- the rule A is put with those that wait, if it isn't there
pub record WaitsToo (A : ℕ) (was now : List ℕ) : Type 0 where
  pub still : (B : ℕ) → Contains was B → Contains now B
  pub there : Contains now A
  pub only : (B : ℕ) → Contains now B → Contains was B ⊎ (A ≡ B)
  pub count : length now ≤ length was + 1
