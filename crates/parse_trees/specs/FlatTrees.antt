-- Trees as one list of nodes, each behind its children.
use Rattle.std.specs.Prelude.{◌≡◌, ℕ, ◌+◌, List, [], ◌∷◌, ◌++◌, map, reverse, length, drop, ◌-◌}
use Rattle.cfg_theory.specs.Grammar.{Grammar}
use Rattle.cfg_theory.specs.Tree.{Tree, leaf, node, Forest, none, before, IsTree}
use Rattle.cfg_theory.specs.Fold.{Span, no_span, span_of, span_over}
use Rattle.lr_theory.specs.StackValues.{top_span}
use Rattle.parse_trees.specs.Stacks.{span_of_places}
use Rattle.parse_trees.specs.declared.flat.Visit.{Visit}
use Rattle.parse_trees.specs.declared.flat.FlatNode.{FlatNode}
use Rattle.parse_trees.specs.declared.flat.FlatNode.TheVariants.{Term, Nonterm}

-- a node as numbers: a lexeme, or a production with its span and how many nodes stand below it
pub data Piece (L : Type 0) : Type 0 where
  term : L → Piece L
  nonterm : ℕ → Span → ℕ → Piece L

abbrev pub piece_of : {S L : Type 0} → (S → ℕ) → FlatNode S L → Piece L
piece_of number (Term x) = term x
piece_of number (Nonterm p span below) = nonterm (number p.0) (span_of_places span) below

abbrev pub piece_span : {L : Type 0} → (L → Span) → Piece L → Span
piece_span at (term x) = at x
piece_span at (nonterm p span n) = span

abbrev pub nodes_below : {L : Type 0} → Piece L → ℕ
nodes_below (term x) = 0
nodes_below (nonterm p span n) = n

abbrev pub pieces_of : {S L : Type 0} → (S → ℕ) → List (FlatNode S L) → List (Piece L)
pieces_of number nodes = map (piece_of number) nodes

abbrev mutual
  -- the children's nodes from left to right, and then the root
  pub flat : {L : Type 0} → (L → Span) → Span → Tree L → List (Piece L)
  flat at left (leaf x) = term x ∷ []
  flat at left (node p f) = flats at left f ++ nonterm p (span_over at left f) (length (flats at left f)) ∷ []

  pub flats : {L : Type 0} → (L → Span) → Span → Forest L → List (Piece L)
  flats at left none = []
  flats at left (before t f) = flat at left t ++ flats at (span_of at left t) f

-- a stack of trees, whose top comes first: the top's nodes are the last ones
abbrev pub flat_stack : {L : Type 0} → (L → Span) → List (Tree L) → List (Piece L)
flat_stack at [] = []
flat_stack at (t ∷ ts) = flat_stack at ts ++ flat at (top_span at ts) t

-- and behind how many nodes each of its trees ends
abbrev pub stack_ends : {L : Type 0} → (L → Span) → List (Tree L) → List ℕ
stack_ends at [] = []
stack_ends at (t ∷ ts) = length (flat_stack at (t ∷ ts)) ∷ stack_ends at ts

-- nodes and ends are those of a stack of trees, whose top comes first
pub record IsFlatStack {L : Type 0} (at : L → Span) (ts : List (Tree L)) (pieces : List (Piece L)) (ends : List ℕ) : Type 0 where
  pub pieces_are : pieces ≡ flat_stack at ts
  pub ends_are : reverse ends ≡ stack_ends at ts

-- the nodes are those of a tree
pub record IsFlat {L : Type 0} (at : L → Span) (t : Tree L) (pieces : List (Piece L)) : Type 0 where
  pub pieces_are : pieces ≡ flat at no_span t

abbrev mutual
  -- how many nodes and leaves
  pub size : {L : Type 0} → Tree L → ℕ
  size (leaf x) = 1
  size (node p f) = sizes f + 1

  pub sizes : {L : Type 0} → Forest L → ℕ
  sizes none = 0
  sizes (before t f) = size t + sizes f

-- the tree's nodes stand in the list from index k on
pub record StandsAt {L : Type 0} (at : L → Span) (pieces : List (Piece L)) (k : ℕ) (t : Tree L) : Type 0 where
  pub left : Span
  pub behind : List (Piece L)
  pub is : drop k pieces ≡ flat at left t ++ behind

pub record StandAt {L : Type 0} (at : L → Span) (pieces : List (Piece L)) (k : ℕ) (f : Forest L) : Type 0 where
  pub left : Span
  pub behind : List (Piece L)
  pub is : drop k pieces ≡ flats at left f ++ behind

abbrev pub below : {L : Type 0} → Tree L → Forest L
below (leaf x) = none
below (node p f) = f

abbrev mutual
  -- a tree whose nodes begin at index k, a node before its children: each one's index, and how deep it is
  pub preorder : {L : Type 0} → ℕ → ℕ → Tree L → List Visit
  preorder k d (leaf x) = record { index = k; depth = d } ∷ []
  preorder k d (node p f) = record { index = k + sizes f; depth = d } ∷ preorders k (d + 1) f

  pub preorders : {L : Type 0} → ℕ → ℕ → Forest L → List Visit
  preorders k d none = []
  preorders k d (before t f) = preorder k d t ++ preorders (k + size t) d f

-- the roots of trees whose nodes begin at index k, from left to right
abbrev pub root_visits : {L : Type 0} → ℕ → ℕ → Forest L → List Visit
root_visits k d none = []
root_visits k d (before t f) = record { index = k + size t - 1; depth = d } ∷ root_visits (k + size t) d f

-- what contracts see of a flat tree
pub record FlatValue (L : Type 0) : Type 0 where
  pub pieces : List (Piece L)

-- the nodes are those of some tree
abbrev pub IsSomeTree : {L : Type 0} → (L → Span) → FlatValue L → Type 0
IsSomeTree {L} at v = (t : Tree L) × IsFlat at t v.pieces

-- the nodes are those of a tree of the grammar
abbrev pub IsFlatTree : {L : Type 0} → Grammar → (L → ℕ) → (L → Span) → FlatValue L → Type 0
IsFlatTree {L} G tok at v = (t : Tree L) × IsFlat at t v.pieces × IsTree G tok t
