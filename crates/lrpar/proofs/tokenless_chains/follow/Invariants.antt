use Rattle.std.proofs.Common.{◌≡◌, ◌<◌, ℕ, List, Some, length, drop}
use Rattle.std.specs.Prelude.{slice_get}
use Rattle.cfg_base.specs.declared.symbol.PIdx.{PIdx}
use Rattle.cfg_theory.specs.Grammar.{body_of}
use Rattle.lr_theory.specs.Chains.{goto_from}
use Rattle.state_table.specs.Graphs.{GraphValue}
use Rattle.state_table.specs.Tables.{automaton_of}
use Rattle.lrpar.specs.Reducing.{stack_of}
use Rattle.lrpar.specs.Branching.{Stacked, AllHoldStates}
use Rattle.lrpar.proofs.tokenless_chains.follow.Given as goal

abbrev pub invariant-prods : goal.invariant-prods
invariant-prods g l = record {
  stacks : AllHoldStates g.S.IndexStorage.number l.chains.stable.now l.stacks.items;
  kept : (ss : List ℕ) → Stacked g.S.IndexStorage.number l.initial.stacks.items ss → Stacked g.S.IndexStorage.number l.stacks.items ss;
  put : (x : GraphValue) (k : ℕ) (i : PIdx g.row.S.Denot) (ss : List ℕ) → k < l.index → slice_get l.list k ≡ Some i →
      goto_from l.chains.grm.now.grammar (automaton_of x l.chains.stable.now) (g.S.IndexStorage.number i.0) (drop (length (body_of l.chains.grm.now.grammar (g.S.IndexStorage.number i.0))) (stack_of g.S.IndexStorage.number l.stack)) ≡ Some ss → Stacked g.S.IndexStorage.number l.stacks.items ss;
}
