use Rattle.lrpar.proofs.FullSteps.{filled}
use Rattle.lrpar.proofs.full_table.copies_of.Goals as goal

pub returns : goal.returns
returns g c = rw (c.in_ok-resize.ensures.items, c.in_ok-values.ensures.items, c.in_ok-values.ensures.len) (filled c.args.count c.args.value)
