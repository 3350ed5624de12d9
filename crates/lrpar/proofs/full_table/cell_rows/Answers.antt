use Rattle.std.proofs.Common.{subst, arith}
use Rattle.lrpar.specs.FullTables.{AreCells}
use Rattle.lrpar.proofs.FullSteps.{rows_more}
use Rattle.lrpar.proofs.full_table.cell_rows.Goals as goal

pub states-preserved : goal.states-preserved
states-preserved g c =
    let number = g.S.IndexStorage.number in
    let P = AreCells number c.args.stable.now in
    rows_more P c.states.number c.states.rows.items c.push.new.self.items c.in_ok-row.row c.states.invariant (subst (λ k. P k c.in_ok-row.row.items) c.state_at.ensures c.in_ok-row.ensures) c.in_ok-push.ensures.items

pub returns : goal.returns
returns g c = λ s lt.
    let value = c.to_usize-count.ensures.value in
    let states = c.states_len.ensures.value in
    let done = c.states-test.false in
    c.states.invariant.are s (omega (arith, lt, value, states, done))
