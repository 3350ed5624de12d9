use Rattle.lrpar.specs.FullTables.{AreCells}
use Rattle.lrpar.proofs.FullSteps.{RowsTo}
use Rattle.lrpar.proofs.full_table.cell_rows.Given as goal

abbrev pub invariant-states : goal.invariant-states
invariant-states g l = RowsTo (AreCells g.S.IndexStorage.number l.stable) l.number l.rows.items
