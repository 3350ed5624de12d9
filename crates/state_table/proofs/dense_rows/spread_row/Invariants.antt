use Rattle.state_table.proofs.SpreadSteps.{SpreadTo}
use Rattle.state_table.proofs.dense_rows.spread_row.Given as goal

abbrev pub invariant-entries : goal.invariant-entries
invariant-entries g l = SpreadTo l.fn.count l.row l.i l.spread.items
