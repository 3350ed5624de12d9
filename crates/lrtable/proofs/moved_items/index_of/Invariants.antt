use Rattle.std.proofs.Common.{ℕ, ◌+◌, ◌<◌, ◌≤◌, length, get_or}
use Rattle.state_table.specs.ItemRows.{Item, ItemBefore}
use Rattle.lrtable.specs.MovedItems.{moved_items}
use Rattle.state_table.specs.CoreViews.{item_of}
use Rattle.lrtable.proofs.moved_items.index_of.Given as goal

abbrev pub invariant-back : goal.invariant-back
invariant-back g l = (k : ℕ) (d : Item) → length l.items ≤ k + l.n → k < length l.items → ItemBefore (get_or (moved_items g.S.IndexStorage.number l.items) k d) (item_of g.S.IndexStorage.number l.item) → ⊥
