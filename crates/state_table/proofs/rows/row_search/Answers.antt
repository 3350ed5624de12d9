use Rattle.std.proofs.Common.{◌+◌, ◌-◌, ◌/◌, ◌<◌, ℕ, length, get_or, ap, arith}
use Rattle.std.proofs.lemmas.Cmp.{ranked}
use Rattle.std.specs.declared.cmp.Ordering.TheVariants.{Less, Greater}
use Rattle.state_table.proofs.Halves.{under, over}
use Rattle.state_table.proofs.Halvings.{halved_more, halved_all}
use Rattle.state_table.proofs.rows.row_search.Goals as goal

pub returns-in-Equal-clause-cost : goal.returns-in-Equal-clause-cost
returns-in-Equal-clause-cost g c =
    let t = c.halves-test.true in
    let left = c.halves.high - c.halves.low in
    halved_all 0 (length c.args.row.now) c.args.steps.now c.compare.new.steps
    (halved_more left 0 (length c.args.row.now) c.args.steps.now c.halves.steps c.compare.new.steps c.halves.invariant.halved (omega (arith, t)) (omega arith) c.compare.ensures.counted)

pub halves-preserved-in-Less : goal.halves-preserved-in-Less
halves-preserved-in-Less g c =
    let m = c.halves.low + (c.halves.high - c.halves.low) / 2 in
    let t = c.halves-test.true in
    let h = c.halves.invariant.high in
    let lt : m < length c.args.row.now = omega arith in
    let at = ap (λ (u : ℕ × g.row.V.Denot). u.0) c.index-row-middle.is in
    let found : (get_or c.args.row.now m c.index-row-middle.result).0 < c.args.number = ranked (get_or c.args.row.now m c.index-row-middle.result).0 c.args.number Less c.in-Less.ensures.order in
    let less : c.index-row-middle.result.0 < c.args.number = omega (arith, at, found) in
    record {
      high = h;
      below = under c.args.row.now c.requires m c.args.number c.index-row-middle.result lt c.index-row-middle.is less;
      above = c.halves.invariant.above;
      halved = halved_more (c.halves.high - c.halves.low) (c.halves.high - (m + 1)) (length c.args.row.now) c.args.steps.now c.halves.steps c.compare.new.steps c.halves.invariant.halved (omega (arith, t)) (omega (arith, t)) c.compare.ensures.counted;
    }

pub halves-preserved : goal.halves-preserved
halves-preserved g c =
    let m = c.halves.low + (c.halves.high - c.halves.low) / 2 in
    let t = c.halves-test.true in
    let h = c.halves.invariant.high in
    let lt : m < length c.args.row.now = omega arith in
    let at = ap (λ (u : ℕ × g.row.V.Denot). u.0) c.index-row-middle.is in
    let found : c.args.number < (get_or c.args.row.now m c.index-row-middle.result).0 = ranked (get_or c.args.row.now m c.index-row-middle.result).0 c.args.number Greater c.in-Greater.ensures.order in
    let more : c.args.number < c.index-row-middle.result.0 = omega (arith, at, found) in
    record {
      high = omega arith;
      below = c.halves.invariant.below;
      above = over c.args.row.now c.requires m c.args.number c.index-row-middle.result lt c.index-row-middle.is more;
      halved = halved_more (c.halves.high - c.halves.low) (m - c.halves.low) (length c.args.row.now) c.args.steps.now c.halves.steps c.compare.new.steps c.halves.invariant.halved (omega (arith, t)) (omega (arith, t)) c.compare.ensures.counted;
    }
