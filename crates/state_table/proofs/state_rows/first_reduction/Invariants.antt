use Rattle.std.proofs.Common.{◌≡◌, drop}
use Rattle.state_table.specs.CellRows.{reductions_on, first_of}
use Rattle.state_table.specs.CellViews.{reductions_of}
use Rattle.state_table.specs.Meeting.{rows_in}
use Rattle.state_table.proofs.state_rows.first_reduction.Given as goal

abbrev pub invariant-each : goal.invariant-each
invariant-each g l =
    let number = g.S.IndexStorage.number in
    first_of (reductions_on (reductions_of number (rows_in l.sets) (drop l.i l.reductions)) l.number) ≡ first_of (reductions_on (reductions_of number (rows_in l.sets) l.reductions) l.number)
