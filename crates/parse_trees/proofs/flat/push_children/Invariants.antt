use Rattle.std.proofs.Common.{◌≡◌, ℕ, ◌+◌}
use Rattle.cfg_theory.specs.Tree.{Tree}
use Rattle.parse_trees.specs.Lex.{span_by}
use Rattle.parse_trees.specs.FlatTrees.{StandsAt, pieces_of, size}
use Rattle.parse_trees.proofs.FlatWalks.{Left}
use Rattle.parse_trees.proofs.flat.push_children.Given as goal

abbrev pub invariant-children : goal.invariant-children
invariant-children g l =
    (k : ℕ) (t : Tree g.row.L.Denot) → StandsAt (span_by g.L.Lexeme.lex) (pieces_of g.S.IndexStorage.number l.nodes) k t → l.fn.at.index + 1 ≡ k + size t →
    (l.stop ≡ k) × Left (span_by g.L.Lexeme.lex) (pieces_of g.S.IndexStorage.number l.nodes) k l.depth l.end t l.initial.waiting.items l.waiting.items

abbrev pub decreases-children : goal.decreases-children
decreases-children g l = l.end
