use Rattle.state_table.proofs.LeastReduced.{least_begun, least_more}
use Rattle.state_table.proofs.table_iterators.least_reduced.Goals as goal

pub each-init : goal.each-init
each-init g c = least_begun c.args.from c.args.end c.requires

pub each-preserved : goal.each-preserved
each-preserved g c = least_more g.S.IndexStorage.number c.args.row.now c.each.i c.index-row-i.result c.args.from c.args.end c.each.below c.lesser-below.result c.each-test.true c.index-row-i.is c.each.invariant c.lesser-below.ensures
