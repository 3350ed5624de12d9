use Rattle.std.proofs.Common.{◌≡◌, take}
use Rattle.state_table.specs.CellViews.{targets_of}
use Rattle.state_table.specs.GraphParts.{rule_edges}
use Rattle.state_table.specs.GraphViews.{edges_seen}
use Rattle.state_table.proofs.graph_rows.goto_row.Given as goal

abbrev pub invariant-edges : goal.invariant-edges
invariant-edges g l =
    let number = g.S.IndexStorage.number in
    targets_of number l.gotos.items ≡ rule_edges (edges_seen number (take l.i l.edges))
