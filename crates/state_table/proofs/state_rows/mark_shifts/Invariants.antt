use Rattle.std.proofs.Common.{◌≡◌, None, take}
use Rattle.state_table.specs.CellViews.{targets_of}
use Rattle.state_table.specs.Marks.{LeavesOut}
use Rattle.state_table.specs.Rows.{at_of}
use Rattle.state_table.proofs.state_rows.mark_shifts.Given as goal

abbrev pub invariant-each : goal.invariant-each
invariant-each g l = LeavesOut (λ t. at_of (targets_of g.S.IndexStorage.number (take l.i l.shifts)) t ≡ None) l.initial.marks.bits l.marks.bits
