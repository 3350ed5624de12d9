use Rattle.std.proofs.Common.{ℕ, ◌+◌, ◌<◌, ◌≤◌, length, get_or}
use Rattle.state_table.specs.ItemRows.{Item, ItemBefore}
use Rattle.state_table.specs.Sharing.{keys_of}
use Rattle.state_table.specs.CoreViews.{item_of}
use Rattle.state_table.proofs.shared_sets.index_in.Given as goal

abbrev pub invariant-back : goal.invariant-back
invariant-back g l = (k : ℕ) (d : Item) → length l.entries ≤ k + l.n → k < length l.entries → ItemBefore (get_or (keys_of g.S.IndexStorage.number l.entries) k d) (item_of g.S.IndexStorage.number l.item) → ⊥
