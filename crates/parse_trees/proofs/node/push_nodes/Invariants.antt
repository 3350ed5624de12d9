use Rattle.std.proofs.Common.{◌-◌, drop}
use Rattle.parse_trees.proofs.NodeLines.{Put}
use Rattle.parse_trees.proofs.node.push_nodes.Given as goal

abbrev pub invariant-nodes : goal.invariant-nodes
invariant-nodes g l = Put g.L.Lexeme.lex g.S.IndexStorage.number l.depth (drop (l.count - l.at) l.nodes) l.initial.waiting.items l.waiting.items
