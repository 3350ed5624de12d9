use Rattle.std.proofs.Common.{◌+◌, ℕ}
use Rattle.lr_theory.specs.Chains.{Reductions}
use Rattle.state_table.specs.CellViews.{state_of}
use Rattle.state_table.specs.Graphs.{GraphValue}
use Rattle.state_table.specs.Tables.{automaton_of}
use Rattle.lrpar.specs.Branching.{AllHoldStates}
use Rattle.lrpar.specs.Reducing.{chain_stack}
use Rattle.lrpar.proofs.StacksAhead.{SomeGoesOn}
use Rattle.lrpar.proofs.tokenless_chains.ends_soon.Given as goal

abbrev pub invariant-stacks : goal.invariant-stacks
invariant-stacks g l = record {
  stacks : AllHoldStates g.S.IndexStorage.number l.chains.stable.now l.stacks.items;
  on : (x : GraphValue) (t k : ℕ) → Reductions l.chains.grm.now.grammar (automaton_of x l.chains.stable.now) t (l.counter + k) (chain_stack (g.S.IndexStorage.number l.fn.state.0) (state_of g.S.IndexStorage.number l.fn.above)) → SomeGoesOn g.S.IndexStorage.number l.chains.grm.now.grammar (automaton_of x l.chains.stable.now) t l.stacks.items k;
}
