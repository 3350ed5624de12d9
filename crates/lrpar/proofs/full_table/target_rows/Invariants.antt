use Rattle.lrpar.specs.FullTables.{AreTargets}
use Rattle.lrpar.proofs.FullSteps.{RowsTo}
use Rattle.lrpar.proofs.full_table.target_rows.Given as goal

abbrev pub invariant-states : goal.invariant-states
invariant-states g l = RowsTo (AreTargets g.S.IndexStorage.number l.stable) l.number l.rows.items
