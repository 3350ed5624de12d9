use Rattle.std.proofs.Common.{◌≡◌, false, true, sym, ◌∙◌}
use Rattle.state_table.proofs.ReducingRows.{entry_reduces, all_next}
use Rattle.state_table.proofs.statetable.all_reduce.Goals as goal

never : false ≡ true → ⊥
never e = cc

pub returns-then-not-reduces_by : goal.returns-then-not-reduces_by
returns-then-not-reduces_by g c =
    let number = g.S.IndexStorage.number in
    (λ e. absurd (never e), λ all. absurd (never (sym c.if-not-reduces_by.true ∙ c.reduces_by.ensures.1 (entry_reduces number c.args.row.now c.each.i c.index-row-i.result c.each-test.true c.index-row-i.is (number c.args.pidx.0) all))))

pub each-preserved : goal.each-preserved
each-preserved g c =
    let number = g.S.IndexStorage.number in
    all_next number c.args.row.now c.each.i c.index-row-i.result c.each-test.true c.index-row-i.is (number c.args.pidx.0) (c.reduces_by.ensures.0 c.if-not-reduces_by.false) c.each.invariant
