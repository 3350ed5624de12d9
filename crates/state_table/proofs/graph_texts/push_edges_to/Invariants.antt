use Rattle.std.proofs.Common.{◌≡◌, ◌++◌, map, take}
use Rattle.std.specs.String.{string_bytes}
use Rattle.state_table.specs.GraphTexts.{edge_text, edges_to}
use Rattle.state_table.specs.GraphViews.{edges_seen}
use Rattle.state_table.proofs.graph_texts.push_edges_to.Given as goal

abbrev pub invariant-edges : goal.invariant-edges
invariant-edges g l = map string_bytes l.lines.items ≡ map string_bytes l.initial.lines.items ++ map (edge_text l.grm) (edges_to (edges_seen g.S.IndexStorage.number (take l.i l.edges)) l.target)
