use Rattle.std.proofs.Common.{◌≡◌, ℕ, ◌<◌, get_or}
use Rattle.state_table.specs.ItemRows.{Item}
use Rattle.state_table.specs.CoreViews.{item_of, items_of}
use Rattle.lrtable.proofs.revisiting.index_among.Given as goal

abbrev pub invariant-each : goal.invariant-each
invariant-each g l = (k : ℕ) (d : Item) → k < l.k → get_or (items_of g.S.IndexStorage.number l.items) k d ≡ item_of g.S.IndexStorage.number l.item → ⊥
