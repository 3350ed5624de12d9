use Rattle.std.proofs.Common.{◌≡◌, ◌∷◌, [], Some, List, drop, map}
use Rattle.cfg_theory.specs.Tree.{Tree, IsTree}
use Rattle.parse_trees.specs.Lex.{span_by, token_by}
use Rattle.parse_trees.specs.FlatTrees.{IsFlat, pieces_of}
use Rattle.parse_trees.specs.FlatReading.{put_each}
use Rattle.parse_trees.specs.NodeLists.{shapes_on}
use Rattle.parse_trees.specs.Shapes.{shape}
use Rattle.parse_trees.proofs.flat_nodes.node_of.Given as goal

abbrev pub invariant-nodes : goal.invariant-nodes
invariant-nodes g l =
    (t : Tree g.row.L.Denot) → IsFlat (span_by g.L.Lexeme.lex) t (pieces_of g.S.IndexStorage.number l.nodes) → IsTree l.grm.grammar (token_by g.L.Lexeme.lex) t →
    (ts : List (Tree g.row.L.Denot)) × (shapes_on g.S.IndexStorage.number l.values.nodes.items ≡ map (shape l.grm.grammar) ts) × (put_each l.grm.grammar (drop l.index (pieces_of g.S.IndexStorage.number l.nodes)) ts ≡ Some (t ∷ []))
