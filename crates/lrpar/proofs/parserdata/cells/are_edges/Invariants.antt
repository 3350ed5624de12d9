use Rattle.state_table.specs.CellViews.{targets_of}
use Rattle.state_table.specs.GraphViews.{edges_seen}
use Rattle.lrpar.proofs.FittingRows.{EdgesTo}
use Rattle.lrpar.proofs.parserdata.cells.are_edges.Given as goal

abbrev pub invariant-gotos : goal.invariant-gotos
invariant-gotos g l = EdgesTo (edges_seen g.S.IndexStorage.number l.edges) (targets_of g.S.IndexStorage.number l.row) l.index
