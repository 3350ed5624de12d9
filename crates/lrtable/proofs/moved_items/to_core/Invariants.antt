use Rattle.std.proofs.Common.{◌≡◌, take}
use Rattle.state_table.specs.Meeting.{rows_in}
use Rattle.lrtable.specs.MovedItems.{moved_items, rows_from}
use Rattle.state_table.specs.CoreViews.{items_of}
use Rattle.lrtable.proofs.moved_items.to_core.Given as goal

abbrev pub invariant-each : goal.invariant-each
invariant-each g l = record {
  items : items_of g.S.IndexStorage.number l.items.items ≡ moved_items g.S.IndexStorage.number (take l.i l.moved);
  looks : rows_in l.looks.items ≡ rows_from l.rows (take l.i l.moved);
}
