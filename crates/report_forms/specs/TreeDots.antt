-- A tree for Graphviz: a box for each node, and an edge to it from the one above.
use Rattle.std.specs.Prelude.{ℕ, suc, List, [], ◌∷◌, ◌++◌, codes, Option, None, Some, option_map}
use Rattle.std.specs.Fmt.{decimal}
use Rattle.report_forms.specs.DotTexts.{label}
use Rattle.report_forms.specs.declared.parse_values.TreeNode.{TreeNode}

abbrev pub head_text : ℕ → List ℕ
head_text number = codes "  " ++ decimal number ++ codes " [label=\""

-- the end of a token's box: below its name the part of the text
abbrev pub token_end : List ℕ → List ℕ
token_end part = codes "\\n" ++ label part ++ codes "\", shape=plaintext]\n"

-- that of any box
abbrev pub part_text : Option (List ℕ) → List ℕ
part_text None = codes "\"]\n"
part_text (Some part) = token_end part

-- the edge to a node from the one above
abbrev pub edge_text : ℕ → Option ℕ → List ℕ
edge_text number None = []
edge_text number (Some parent) = codes "  " ++ decimal parent ++ codes " -> " ++ decimal number ++ codes "\n"

unfoldable pub node_text : ℕ → TreeNode → List ℕ
node_text number n = head_text number ++ label n.name.now ++ part_text (option_map (λ t. t.now) n.text) ++ edge_text number n.parent

-- nodes from a number on
abbrev pub nodes_text : ℕ → List TreeNode → List ℕ
nodes_text number [] = []
nodes_text number (n ∷ ns) = node_text number n ++ nodes_text (suc number) ns

abbrev pub tree_graph : List ℕ → List TreeNode → List ℕ
tree_graph path nodes = (codes "digraph \"" ++ label path ++ codes "\" {\n  node [shape=box]\n") ++ nodes_text 0 nodes ++ codes "}\n"
