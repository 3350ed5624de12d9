use Rattle.std.proofs.Common.{ℕ, ap, arith}
use Rattle.lrpar.proofs.FullSteps.{full_start, full_more, full_all}
use Rattle.lrpar.proofs.full_table.full_row.Goals as goal

pub entries-init : goal.entries-init
entries-init g c = full_start c.args.count c.args.row.now c.args.empty c.in_ok-full.full.items c.in_ok-full.ensures

pub put-requires : goal.put-requires
put-requires g c =
    let b = c.requires.below c.entries.i c.index-row-i.result (omega arith) in
    let e = ap (λ (y : ℕ × _). y.0) c.index-row-i.is in
    let n = c.entries.invariant.count in
    omega (arith, b, e, n)

pub entries-preserved : goal.entries-preserved
entries-preserved g c =
    let b = c.requires.below c.entries.i c.index-row-i.result (omega arith) in
    let e = ap (λ (y : ℕ × _). y.0) c.index-row-i.is in
    let n = c.entries.invariant.count in
    full_more c.args.count c.args.row.now c.args.empty c.entries.i c.index-row-i.result c.entries.full.items c.put.new.full.items c.requires.rises (omega arith) c.index-row-i.is (omega (arith, b, e, n)) c.put.ensures c.entries.invariant

pub returns : goal.returns
returns g c = full_all c.args.count c.args.row.now c.args.empty c.entries.i c.entries.full.items (omega arith) c.entries.invariant
