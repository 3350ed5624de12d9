use Rattle.lrpar.proofs.FullSteps.{FullTo}
use Rattle.lrpar.proofs.full_table.full_row.Given as goal

abbrev pub invariant-entries : goal.invariant-entries
invariant-entries g l = FullTo l.fn.count l.row l.fn.empty l.i l.full.items
