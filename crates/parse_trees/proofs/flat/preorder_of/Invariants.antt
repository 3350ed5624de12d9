use Rattle.std.proofs.Common.{length, ◌-◌}
use Rattle.cfg_theory.specs.Tree.{Tree}
use Rattle.parse_trees.specs.Lex.{span_by}
use Rattle.parse_trees.specs.FlatTrees.{IsFlat, pieces_of, preorder}
use Rattle.parse_trees.proofs.FlatWalks.{Walks}
use Rattle.parse_trees.proofs.flat.preorder_of.Given as goal

abbrev pub invariant-waiting : goal.invariant-waiting
invariant-waiting g l =
    (t : Tree g.row.L.Denot) → IsFlat (span_by g.L.Lexeme.lex) t (pieces_of g.S.IndexStorage.number l.nodes) → Walks (span_by g.L.Lexeme.lex) (pieces_of g.S.IndexStorage.number l.nodes) (preorder 0 0 t) l.found.items l.waiting.items

abbrev pub decreases-waiting : goal.decreases-waiting
decreases-waiting g l = length l.nodes - length l.found.items
