use Rattle.std.proofs.Common.{ℕ, ap, arith}
use Rattle.state_table.proofs.SpreadSteps.{spread_more, spread_all}
use Rattle.state_table.proofs.dense_rows.spread_row.Goals as goal

pub put-requires : goal.put-requires
put-requires g c =
    let b = c.requires.below c.entries.i c.index-row-i.result (omega arith) in
    let e = ap (λ (y : ℕ × _). y.0) c.index-row-i.is in
    let n = c.entries.invariant.count in
    omega (arith, b, e, n)

pub entries-preserved : goal.entries-preserved
entries-preserved g c = spread_more c.args.count c.args.row.now c.entries.i c.index-row-i.result c.entries.spread.items c.put.new.spread.items c.requires.rises (omega arith) c.index-row-i.is c.put.ensures c.entries.invariant

pub returns : goal.returns
returns g c = spread_all c.args.count c.args.row.now c.entries.i c.entries.spread.items (omega arith) c.entries.invariant
