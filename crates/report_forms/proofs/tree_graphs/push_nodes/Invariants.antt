-- The nodes so far, and those that are left, are all.
use Rattle.std.proofs.Common.{◌≡◌, ◌++◌, drop}
use Rattle.std.specs.String.{string_bytes}
use Rattle.report_forms.specs.TreeDots.{nodes_text}
use Rattle.report_forms.proofs.tree_graphs.push_nodes.Given as goal

abbrev pub invariant-nodes : goal.invariant-nodes
invariant-nodes l = string_bytes l.text ++ nodes_text l.number (drop l.number l.nodes) ≡ string_bytes l.fn.text ++ nodes_text 0 l.nodes
