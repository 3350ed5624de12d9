use Rattle.std.proofs.Common.{◌≤◌, ℕ, length, sym, subst, arith}
use Rattle.lr_theory.specs.Itemset.{HasItem}
use Rattle.lrpar.specs.Fitting.{OfGrammar, closed_at}
use Rattle.lrpar.specs.Completing.{ItemStands}
use Rattle.lrpar.proofs.LeastNumbers.{below_one_more}
use Rattle.lrpar.proofs.Completed.{stands_of, complete_of}
use Rattle.lrpar.proofs.FittingStates.{item_from}
use Rattle.lrpar.proofs.parserdata.complete.is_complete.Goals as goal

pub state_stands-requires-clause-items : goal.state_stands-requires-clause-items
state_stands-requires-clause-items g c =
    let number = g.S.IndexStorage.number in
    let all : OfGrammar c.args.machine.now.grm.now.grammar (closed_at c.args.machine.now.sgraph.now (number c.index_below.result)) = λ p d h. (c.args.machine.now.pair.safe.in_range (number c.index_below.result) p d h).0 in
    subst (OfGrammar c.args.machine.now.grm.now.grammar) (sym c.closed_state.ensures) all

pub returns-then-not-state_stands : goal.returns-then-not-state_stands
returns-then-not-state_stands g c = λ complete.
    let number = g.S.IndexStorage.number in
    let fails = rw (c.if-not-state_stands.true, c.closed_state.ensures) at c.state_stands.ensures in
    fails (λ p d h. stands_of c.args.machine.now.grm.now.grammar c.args.machine.now.sgraph.now c.args.machine.now.stable.now complete (number c.index_below.result) p d h)

pub states-preserved : goal.states-preserved
states-preserved g c =
    let number = g.S.IndexStorage.number in
    let here = rw (c.if-not-state_stands.false, c.closed_state.ensures, c.index_below.ensures) at c.state_stands.ensures in
    below_one_more (λ s. (p d : ℕ) → HasItem (closed_at c.args.machine.now.sgraph.now s) p d → ItemStands c.args.machine.now.grm.now.grammar c.args.machine.now.stable.now (closed_at c.args.machine.now.sgraph.now s) s p d) c.states.number c.states.invariant here

pub returns : goal.returns
returns g c =
    let all : length c.args.machine.now.sgraph.now.cores ≤ c.states.number = omega (arith, c.states-test.false, c.to_usize-number-end.ensures.value, c.all_states_len.ensures.value) in
    complete_of c.args.machine.now.grm.now.grammar c.args.machine.now.sgraph.now c.args.machine.now.stable.now (λ s p d h.
    let lt = item_from c.args.machine.now.grm.now.grammar c.args.machine.now.sgraph.now c.args.machine.now.stable.now g.S.IndexStorage.MAX c.all_states_len.ensures.graph s p d h in
    c.states.invariant s (omega (arith, lt, all)) p d h)
