use Rattle.std.proofs.Common.{◌<◌, arith}
use Rattle.state_table.specs.CellViews.{cells_of}
use Rattle.state_table.proofs.LeastReduced.{left_none, left_some}
use Rattle.state_table.proofs.table_iterators.next_reduced.Goals as goal

pub returns-then-number-end : goal.returns-then-number-end
returns-then-number-end g c = left_none (cells_of g.S.IndexStorage.number c.args.row.now) c.args.from c.args.end c.least_reduced-number.result c.least_reduced-number.ensures c.if-number-end.true

pub returns : goal.returns
returns g c =
    let w = c.least_reduced-number.ensures.within in
    let ne = c.if-number-end.false in
    let lt : c.least_reduced-number.result < c.args.end = omega (arith, w, ne) in
    (lt, left_some (cells_of g.S.IndexStorage.number c.args.row.now) c.args.from c.args.end c.least_reduced-number.result c.least_reduced-number.ensures lt)
