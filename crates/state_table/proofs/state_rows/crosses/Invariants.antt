use Rattle.std.proofs.Common.{take}
use Rattle.state_table.specs.CellRows.{AreApart}
use Rattle.state_table.specs.CellViews.{targets_of}
use Rattle.state_table.proofs.state_rows.crosses.Given as goal

abbrev pub invariant-each : goal.invariant-each
invariant-each g l = AreApart l.tokens.bits (targets_of g.S.IndexStorage.number (take l.i l.shifts))
