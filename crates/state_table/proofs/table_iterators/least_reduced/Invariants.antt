use Rattle.std.proofs.Common.{take}
use Rattle.state_table.specs.CellViews.{cells_of}
use Rattle.state_table.specs.LeastReduced.{IsLeastReduced}
use Rattle.state_table.proofs.table_iterators.least_reduced.Given as goal

abbrev pub invariant-each : goal.invariant-each
invariant-each g l = IsLeastReduced (cells_of g.S.IndexStorage.number (take l.i l.row)) l.from l.end l.below
