-- Parses whose value is a node.
use Rattle.std.specs.Prelude.{◌≡◌, ℕ, Option, None, Some}
use Rattle.cfg_theory.specs.Grammar.{Grammar}
use Rattle.cfg_theory.specs.Tree.{Tree}
use Rattle.parse_trees.specs.Shapes.{shape, shape_of}
use Rattle.parse_trees.specs.declared.node.Node.{Node}

-- no node where there is no tree, and else one of the tree's shape
abbrev pub HasNode : {S L : Type 0} → (S → ℕ) → Grammar → Option (Node L S) → Option (Tree L) → Type 0
HasNode number G None None = Unit {0}
HasNode number G (Some n) None = ⊥
HasNode number G None (Some t) = ⊥
HasNode number G (Some n) (Some t) = shape_of number n ≡ shape G t
