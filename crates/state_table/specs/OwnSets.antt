-- Entries for the items of a core, each with the index of a set of its own.
use Rattle.std.specs.Prelude.{◌≡◌, ℕ, ◌≤◌, Bool, List, length, take}
use Rattle.state_table.specs.declared.shared_sets.SharedItem.{SharedItem}
use Rattle.state_table.specs.ItemRows.{Item}
use Rattle.state_table.specs.Sharing.{keys_of, rows_at, PointIn}

-- an entry for each of the first k items, with the index of a set of its own
pub record HaveOwn {S : Type 0} (number : S → ℕ) (items : List Item) (k : ℕ) (entries : List (SharedItem S)) : Type 0 where
  pub keys : keys_of number entries ≡ take k items
  pub rows : (rows : List (List Bool)) → k ≤ length rows → rows_at rows entries ≡ take k rows
  pub within : (rows : List (List Bool)) → k ≤ length rows → PointIn rows entries
