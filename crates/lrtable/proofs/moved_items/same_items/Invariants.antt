use Rattle.std.proofs.Common.{◌≡◌, take}
use Rattle.lrtable.specs.MovedItems.{moved_items}
use Rattle.state_table.specs.CoreViews.{items_of}
use Rattle.lrtable.proofs.moved_items.same_items.Given as goal

abbrev pub invariant-each : goal.invariant-each
invariant-each g l = items_of g.S.IndexStorage.number (take l.i l.core) ≡ moved_items g.S.IndexStorage.number (take l.i l.moved)
