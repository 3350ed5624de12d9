use Rattle.std.proofs.Common.{◌<◌, ◌∙◌, sym, arith}
use Rattle.lr_theory.specs.LongChains.{Chain, Passes}
use Rattle.state_table.specs.Graphs.{GraphValue}
use Rattle.state_table.specs.Tables.{automaton_of}
use Rattle.lrpar.proofs.LeastChains.{within, more_state, least_of_all}
use Rattle.lrpar.proofs.chains.long_among.Goals as goal

pub returns-in-Some : goal.returns-in-Some
returns-in-Some g c = λ x.
    let number = g.S.IndexStorage.number in
    let k = rw c.in-Some.is at (c.in_ok-found.ensures.found x) in
    let below : (b : Chain) → b.state < number c.index_below.result → Passes c.args.chains.now.grm.now.grammar (automaton_of x c.args.chains.now.stable.now) c.args.chains.now.limit b → _ =
    λ b lt. c.states.invariant.before x b (omega (arith, lt, c.index_below.ensures)) in
    least_of_all c.args.chains.now.grm.now.grammar x c.args.chains.now.stable.now c.args.chains.now.table.is_table c.args.chains.now.limit number (number c.index_below.result) c.in-Some.found k below

pub states-preserved : goal.states-preserved
states-preserved g c =
    let k = λ (x : GraphValue). rw c.in_default.is at (c.in_ok-found.ensures.found x) in
    record { endings = c.in_ok-found.ensures.endings; before = λ x d lt. more_state c.args.chains.now.grm.now.grammar x c.args.chains.now.stable.now c.args.chains.now.table.is_table c.args.chains.now.limit c.states.number d lt (c.states.invariant.before x) (λ b e. k x b (e ∙ sym c.index_below.ensures)) }

pub returns : goal.returns
returns g c = λ x. within c.args.chains.now.grm.now.grammar x c.args.chains.now.stable.now c.args.chains.now.table.is_table c.args.chains.now.limit (λ d lt. c.states.invariant.before x d (omega (arith, lt, c.states-test.false, c.to_usize-number-end.ensures.value, c.states_len-states.ensures.value)))
