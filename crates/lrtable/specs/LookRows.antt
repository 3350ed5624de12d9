-- Where the lookaheads of moved items stand.
use Rattle.std.specs.Prelude.{ℕ, ◌<◌, Bool, false, List, length, IsTrue, slice_index_or}
use Rattle.state_table.specs.Meeting.{row}
use Rattle.lrtable.specs.Opening.{RuleSets}

-- those of the items of a core, and the rules that its closure opens with theirs
pub record LookRows : Type 0 where
  pub own : List (List Bool)
  pub opening : RuleSets

-- the token is in each of these
abbrev pub IsInEach : List (List Bool) → ℕ → Type 0
IsInEach rows t = (i : ℕ) → i < length rows → IsTrue (slice_index_or (row rows i) t false)
