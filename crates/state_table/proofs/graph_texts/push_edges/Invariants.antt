use Rattle.std.proofs.Common.{◌≡◌, ◌≤◌, ◌-◌, ◌++◌, map}
use Rattle.std.specs.String.{string_bytes}
use Rattle.state_table.specs.GraphTexts.{edge_text, by_target}
use Rattle.state_table.specs.GraphViews.{edges_seen}
use Rattle.state_table.proofs.graph_texts.push_edges.Given as goal

abbrev pub invariant-targets : goal.invariant-targets
invariant-targets g l = (l.from ≤ l.count) × (map string_bytes l.lines.items ≡ map string_bytes l.initial.lines.items ++ map (edge_text l.grm) (by_target l.from (edges_seen g.S.IndexStorage.number l.edges)))

abbrev pub decreases-targets : goal.decreases-targets
decreases-targets g l = l.count - l.from
