use Rattle.std.proofs.Common.{◌≡◌, ℕ, ◌+◌, List, map}
use Rattle.cfg_theory.specs.Tree.{Tree}
use Rattle.parse_trees.specs.FlatTrees.{Piece, StandsAt, size}
use Rattle.parse_trees.specs.Outlines.{erased, marks_of, unplaced}
use Rattle.parse_trees.proofs.FlatWalks.{Left}
use Rattle.parse_trees.proofs.outline.push_children.Given as goal

abbrev pub invariant-children : goal.invariant-children
invariant-children g l =
    (pieces : List (Piece g.row.L.Denot)) (k : ℕ) (t : Tree g.row.L.Denot) → marks_of g.S.IndexStorage.number l.nodes ≡ map erased pieces → StandsAt unplaced pieces k t → l.fn.at.index + 1 ≡ k + size t →
    (l.stop ≡ k) × Left unplaced pieces k l.depth l.end t l.initial.waiting.items l.waiting.items

abbrev pub decreases-children : goal.decreases-children
decreases-children g l = l.end
