use Rattle.std.proofs.Common.{◌≡◌, ◌≤◌, length, take}
use Rattle.lrtable.specs.MovedItems.{moved_items, rows_from}
use Rattle.state_table.specs.CoreViews.{items_of}
use Rattle.lrtable.specs.Revisits.{core_noted, AreRowsBehind}
use Rattle.lrtable.proofs.revisiting.goto_of_items.Given as goal

abbrev pub invariant-items : goal.invariant-items
invariant-items g l =
    let number = g.S.IndexStorage.number in
    record {
      within : l.k ≤ length l.from;
      items : moved_items number l.set.items ≡ take l.k (items_of number l.from);
      rows : AreRowsBehind l.grm.grammar (core_noted number l.was l.rows) (items_of number l.from) l.k (rows_from l.rows l.set.items);
    }
