-- Nodes beside the machine's stack of trees.
use Rattle.std.proofs.Common.{◌≡◌, ◌≤◌, ℕ, zero, suc, List, [], ◌∷◌, ◌++◌, length, map, reverse, get_or, Some, refl, sym, ap, ◌∙◌, arith}
use Rattle.std.specs.Prelude.{option_map}
use Rattle.std.proofs.lemmas.List.{length-map, length-reverse, reverse-reverse}
use Rattle.cfg_theory.specs.Grammar.{Grammar, head_of}
use Rattle.cfg_theory.specs.Tree.{Tree, leaf, node, Forest, none, before}
use Rattle.lr_theory.specs.Machine.{pop}
use Rattle.parse_trees.specs.NodeLists.{grab, shapes_on}
use Rattle.parse_trees.specs.Shapes.{Shape, Shapes, lexeme, over, nothing, shape, shapes, shape_of}
use Rattle.parse_trees.specs.declared.node.Node.{Node}
use Rattle.parse_trees.specs.declared.node.Node.TheVariants.{Term}
use Rattle.parse_trees.proofs.NodeLists.{pushed_on, shape_of-Term}

module _ {L : Type 0} (G : Grammar) where
  -- trees that are popped are taken by their shapes
  pub popped_shapes : (n : ℕ) (ts : List (Tree L)) (acc f : Forest L) (below : List (Tree L)) → pop n ts acc ≡ Some (f, below) → grab (map (shape G) ts) n (shapes G acc) ≡ Some (shapes G f, map (shape G) below)
  popped_shapes zero ts acc f below e = ap (option_map (λ (p : Forest L × List (Tree L)). (shapes G p.0, map (shape G) p.1))) e
  popped_shapes (suc n) [] acc f below e = absurd cc
  popped_shapes (suc n) (t ∷ ts) acc f below e = popped_shapes n ts (before t acc) f below e

module _ {S L : Type 0} (number : S → ℕ) (G : Grammar) where
  -- there is a node for each tree
  pub nodes_enough : (nodes : List (Node L S)) (ts : List (Tree L)) (n : ℕ) → shapes_on number nodes ≡ map (shape G) ts → n ≤ length ts → n ≤ length nodes
  nodes_enough nodes ts n h le = omega (arith, le, ap length h, length-map nodes (shape_of number), length-reverse (map (shape_of number) nodes), length-map ts (shape G))

  pub stand_shifted : (nodes nodes' : List (Node L S)) (ts : List (Tree L)) (x : L) → shapes_on number nodes ≡ map (shape G) ts → nodes' ≡ nodes ++ Term x ∷ [] → shapes_on number nodes' ≡ map (shape G) (leaf x ∷ ts)
  stand_shifted nodes nodes' ts x h e = pushed_on number nodes nodes' (Term x) e ∙ ap (λ s. s ∷ shapes_on number nodes) (shape_of-Term number x) ∙ ap (λ l. lexeme x ∷ l) h

  pub stand_reduced : (nodes nodes' : List (Node L S)) (ts below : List (Tree L)) (f : Forest L) (p r n : ℕ) → r ≡ head_of G p → shapes_on number nodes ≡ map (shape G) ts → pop n ts none ≡ Some (f, below) →
      ((ss : Shapes L) (rest : List (Shape L)) → grab (shapes_on number nodes) n nothing ≡ Some (ss, rest) → shapes_on number nodes' ≡ over r ss ∷ rest) → shapes_on number nodes' ≡ map (shape G) (node p f ∷ below)
  stand_reduced nodes nodes' ts below f p r n is h popped joined =
      joined (shapes G f) (map (shape G) below) (ap (λ l. grab l n nothing) h ∙ popped_shapes G n ts none f below popped) ∙ ap (λ k. over k (shapes G f) ∷ map (shape G) below) is

  -- a node alone
  alone : (nodes : List (Node L S)) (s : Shape L) → map (shape_of number) nodes ≡ s ∷ [] → (v : Node L S) × (nodes ≡ v ∷ []) × (shape_of number v ≡ s)
  alone [] s e = absurd cc
  alone (v ∷ []) s e = (v, refl, ap (λ l. get_or l 0 s) e)
  alone (v ∷ w ∷ vs) s e = absurd cc

  pub node_alone : (nodes : List (Node L S)) (s : Shape L) → shapes_on number nodes ≡ s ∷ [] → (v : Node L S) × (nodes ≡ v ∷ []) × (shape_of number v ≡ s)
  node_alone nodes s h = alone nodes s (sym (reverse-reverse (map (shape_of number) nodes)) ∙ ap reverse h)
