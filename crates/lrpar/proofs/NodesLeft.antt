-- The node that a run leaves.
use Rattle.std.proofs.Common.{◌≡◌, ℕ, List, [], ◌∷◌, map, Option, None, Some, Bool, true, subst}
use Rattle.cfg_theory.specs.Grammar.{Grammar}
use Rattle.cfg_theory.specs.Tree.{Tree}
use Rattle.parse_trees.specs.NodeLists.{shapes_on}
use Rattle.parse_trees.specs.NodeValues.{HasNode}
use Rattle.lrpar.specs.Parses.{HoldsValue}
use Rattle.parse_trees.specs.Shapes.{shape}
use Rattle.parse_trees.specs.declared.node.Node.{Node}

module _ {S L : Type 0} (number : S → ℕ) (G : Grammar) where
  -- the node of the one tree on a stack
  node_of_tree : (nodes : List (Node L S)) (value : Option (Node L S)) → ((t : Tree L) → shapes_on number nodes ≡ map (shape G) (t ∷ []) → HasNode number G value (Some t)) →
      (tree : Option (Tree L)) → HoldsValue (λ ts. shapes_on number nodes ≡ map (shape G) ts) true tree → HasNode number G value tree
  node_of_tree nodes value f None h = absurd h
  node_of_tree nodes value f (Some t) h = f t h

  pub node_where : (nodes : List (Node L S)) (value : Option (Node L S)) (accepted : Bool) → accepted ≡ true →
      ((t : Tree L) → shapes_on number nodes ≡ map (shape G) (t ∷ []) → HasNode number G value (Some t)) →
      (tree : Option (Tree L)) → HoldsValue (λ ts. shapes_on number nodes ≡ map (shape G) ts) accepted tree → HasNode number G value tree
  node_where nodes value accepted e f tree h = node_of_tree nodes value f tree (subst (λ b. HoldsValue (λ ts. shapes_on number nodes ≡ map (shape G) ts) b tree) e h)
