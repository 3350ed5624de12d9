use Rattle.state_table.specs.CellViews.{cells_of}
use Rattle.state_table.specs.GraphViews.{edges_seen}
use Rattle.lrpar.specs.Fitting.{ReducesWell}
use Rattle.lrpar.proofs.FittingRows.{ActionsTo}
use Rattle.lrpar.proofs.parserdata.cells.least_action.Given as goal

abbrev pub invariant-cells : goal.invariant-cells
invariant-cells g l = record {
  actions : ActionsTo l.state.grm.now.grammar l.state.items.now (edges_seen g.S.IndexStorage.number l.edges) l.state.stable.now (g.S.IndexStorage.number l.state.stidx.0) (cells_of g.S.IndexStorage.number l.row) l.at l.index;
  seen : ReducesWell g.S.IndexStorage.number l.state.grm.now.grammar l.state.items.now l.seen;
}
