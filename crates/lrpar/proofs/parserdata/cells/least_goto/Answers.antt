use Rattle.std.proofs.Common.{subst}
use Rattle.state_table.specs.CellViews.{targets_of}
use Rattle.state_table.specs.GraphViews.{edges_seen}
use Rattle.lrpar.specs.Fitting.{AreEdges}
use Rattle.lrpar.proofs.FittingRows.{gotos_all}
use Rattle.lrpar.proofs.parserdata.cells.least_goto.Goals as goal

pub returns-then-are_edges : goal.returns-then-are_edges
returns-then-are_edges g c =
    let number = g.S.IndexStorage.number in
    let row = targets_of number c.state_gotos.result.now in
    let are : AreEdges row (edges_seen number c.args.edges.now) c.args.state.now.stable.now.rules = subst (AreEdges row (edges_seen number c.args.edges.now)) c.rules_len.ensures (c.are_edges.ensures c.if-are_edges.true) in
    gotos_all (edges_seen number c.args.edges.now) c.requires.order c.args.state.now.stable.now (number c.args.state.now.stidx.0) row c.state_gotos.ensures.whole c.state_gotos.ensures.targets are
