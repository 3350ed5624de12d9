use Rattle.std.proofs.Common.{◌≡◌, min, length, take}
use Rattle.std.specs.List.{sum_by}
use Rattle.state_table.proofs.stategraph.StateGraph.all_edges_len.Given as goal

abbrev pub invariant-lists : goal.invariant-lists
invariant-lists g l = l.count ≡ min (sum_by length (take l.index l.self.edges)) 18446744073709551615
