use Rattle.std.proofs.Common.{◌<◌, length}
use Rattle.state_table.specs.Tables.{automaton_of}
use Rattle.lrpar.specs.Reducing.{states_of, stack_of, AreStates, chain_stack}
use Rattle.state_table.specs.Graphs.{GraphValue}
use Rattle.state_table.specs.CellViews.{state_of}
use Rattle.lrpar.proofs.LongChain.{LeadsOn}
use Rattle.lrpar.proofs.chains.is_long.Given as goal

abbrev pub invariant-chain : goal.invariant-chain
invariant-chain g l = record {
  states : AreStates l.chains.stable.now (states_of g.S.IndexStorage.number l.stack.items);
  some : 0 < length l.stack.items;
  leads : (x : GraphValue) → LeadsOn l.chains.grm.now.grammar (automaton_of x l.chains.stable.now) (g.S.IndexStorage.number l.tidx.0) l.counter (chain_stack (g.S.IndexStorage.number l.fn.state.0) (state_of g.S.IndexStorage.number l.fn.above)) (stack_of g.S.IndexStorage.number l.stack.items);
}
