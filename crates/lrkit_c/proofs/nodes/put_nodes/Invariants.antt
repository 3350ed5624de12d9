-- The nodes so far are at the front, and behind them is what was there.
use Rattle.std.proofs.Common.{◌≡◌, ◌++◌, length, take, drop}
use Rattle.parse_trees.specs.FlatTrees.{pieces_of}
use Rattle.lrkit_c.specs.Nodes.{itself, nodes_of}
use Rattle.lrkit_c.proofs.nodes.put_nodes.Given as goal

abbrev pub invariant-nodes : goal.invariant-nodes
invariant-nodes l = (l.nodes ≡ take l.index (nodes_of l.grm.grammar (pieces_of itself l.from)) ++ drop l.index l.initial.nodes) × (length l.nodes ≡ length l.initial.nodes)
