use Rattle.std.proofs.Common.{◌≤◌, length}
use Rattle.state_table.specs.Meeting.{rows_in}
use Rattle.state_table.specs.CoreViews.{items_of}
use Rattle.lrtable.specs.Revisits.{core_noted, AreHeld}
use Rattle.lrtable.proofs.revisiting.are_held.Given as goal

abbrev pub invariant-items : goal.invariant-items
invariant-items g l =
    let number = g.S.IndexStorage.number in
    record {
      within : l.k ≤ length l.core.items.items;
      held : AreHeld l.grm.grammar (core_noted number l.was l.rows) (items_of number l.core.items.items) l.k (rows_in l.core.looks.items);
    }
