use Rattle.std.proofs.Common.{◌≡◌, drop}
use Rattle.state_table.specs.CellViews.{cells_of}
use Rattle.state_table.specs.TableValues.{kept_tokens}
use Rattle.state_table.proofs.table_iterators.next_kept.Given as goal

abbrev pub invariant-each : goal.invariant-each
invariant-each g l =
    let number = g.S.IndexStorage.number in
    kept_tokens l.shifts (cells_of number (drop l.i l.row)) ≡ kept_tokens l.shifts (cells_of number (drop l.from l.row))
