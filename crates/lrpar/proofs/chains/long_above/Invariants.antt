use Rattle.std.proofs.Common.{ℕ, Some}
use Rattle.lr_theory.specs.LongChains.{GoesPast}
use Rattle.state_table.specs.CellViews.{targets_of}
use Rattle.state_table.specs.Graphs.{GraphValue}
use Rattle.state_table.specs.Tables.{automaton_of}
use Rattle.lrpar.specs.Endings.{AreEndings}
use Rattle.lrpar.proofs.RowWalks.{RowTo}
use Rattle.lrpar.proofs.chains.long_above.Given as goal

abbrev pub invariant-gotos : goal.invariant-gotos
invariant-gotos g l = record {
  endings : AreEndings g.S.IndexStorage.number l.chains.grm.now.grammar l.chains.stable.now l.search.endings.items;
  before : (x : GraphValue) → RowTo (targets_of g.S.IndexStorage.number l.row) (λ R. (t : ℕ) → GoesPast l.chains.grm.now.grammar (automaton_of x l.chains.stable.now) l.chains.limit (g.S.IndexStorage.number l.state.0) (Some R) t → ⊥) l.index;
}
