use Rattle.std.proofs.Common.{◌≡◌, [], take}
use Rattle.state_table.specs.CellRows.{reductions_on}
use Rattle.state_table.specs.CellViews.{reductions_of}
use Rattle.state_table.specs.Marks.{LeavesOut}
use Rattle.state_table.specs.Meeting.{rows_in}
use Rattle.state_table.proofs.state_rows.mark_reductions.Given as goal

abbrev pub invariant-each : goal.invariant-each
invariant-each g l = LeavesOut (λ t. reductions_on (reductions_of g.S.IndexStorage.number (rows_in l.sets) (take l.i l.reductions)) t ≡ []) l.initial.marks.bits l.marks.bits
