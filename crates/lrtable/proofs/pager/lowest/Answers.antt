use Rattle.std.proofs.Common.{◌≡◌, false, length, map, ap, ◌∙◌, below_more, arith, rules}
use Rattle.lrtable.specs.States.{StateValue, no_state, state_at}
use Rattle.lrtable.specs.StateViews.{value_of}
use Rattle.state_table.proofs.CoreSteps.{map_at}
use Rattle.lrtable.proofs.pager.lowest.Goals as goal

pub each-preserved : goal.each-preserved
each-preserved g c =
    let number = g.S.IndexStorage.number in
    let states = c.args.builder.now.states.items in
    let len : c.len-number-end.result ≡ length states = search rules in
    let test = c.each-test.true in
    below_more (λ r. (state_at (map (value_of number) states) r).todo ≡ false) c.each.number c.each.invariant
    (ap (λ (x : StateValue). x.todo) (map_at (value_of number) states c.each.number c.index-state.result.now no_state (omega (arith, test, len)) c.index-state.ensures) ∙ c.if-state.false)
