use Rattle.state_table.specs.CellViews.{cells_of, state_of}
use Rattle.state_table.specs.Graphs.{GraphValue}
use Rattle.state_table.specs.Tables.{automaton_of}
use Rattle.lrpar.specs.Endings.{AreEndings}
use Rattle.lrpar.specs.Reducing.{IsLong}
use Rattle.lrpar.proofs.RowWalks.{RowTo}
use Rattle.lrpar.proofs.chains.long_token.Given as goal

abbrev pub invariant-cells : goal.invariant-cells
invariant-cells g l = record {
  endings : AreEndings g.S.IndexStorage.number l.chains.grm.now.grammar l.chains.stable.now l.search.endings.items;
  before : (x : GraphValue) → RowTo (cells_of g.S.IndexStorage.number l.row) (λ t. IsLong l.chains.grm.now.grammar (automaton_of x l.chains.stable.now) l.chains.limit (g.S.IndexStorage.number l.state.0) (state_of g.S.IndexStorage.number l.above) t → ⊥) l.index;
}
