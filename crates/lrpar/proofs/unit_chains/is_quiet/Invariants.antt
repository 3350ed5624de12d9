use Rattle.std.proofs.Common.{◌<◌, ◌+◌, ℕ, [], ◌∷◌}
use Rattle.lr_theory.specs.Chains.{Reductions}
use Rattle.state_table.specs.Tables.{automaton_of}
use Rattle.state_table.specs.Graphs.{GraphValue}
use Rattle.lrpar.proofs.unit_chains.is_quiet.Given as goal

abbrev pub invariant-links : goal.invariant-links
invariant-links g l = record {
  inside : g.S.IndexStorage.number l.top.0 < l.chains.stable.now.states;
  on : (x : GraphValue) (t k : ℕ) → Reductions l.chains.grm.now.grammar (automaton_of x l.chains.stable.now) t (l.counter + k) (g.S.IndexStorage.number l.fn.above.0 ∷ g.S.IndexStorage.number l.state.0 ∷ []) →
      Reductions l.chains.grm.now.grammar (automaton_of x l.chains.stable.now) t k (g.S.IndexStorage.number l.top.0 ∷ g.S.IndexStorage.number l.state.0 ∷ []);
}
