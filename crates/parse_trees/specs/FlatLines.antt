-- How a flat tree is shown.
use Rattle.std.specs.Prelude.{◌≡◌, ℕ, ◌<◌, List, [], length, slice_get, Option, None, Some}
use Rattle.cfg_theory.specs.Grammar.{head_of}
use Rattle.cfg_theory.specs.Tree.{Tree, leaf, node, Forest, none, before}
use Rattle.cfg_numbered.specs.Value.{GrammarValue}
use Rattle.parse_trees.specs.Lex.{Lex}
use Rattle.parse_trees.specs.declared.flat.Visit.{Visit}
use Rattle.parse_trees.specs.FlatTrees.{Piece, term, nonterm}
use Rattle.parse_trees.specs.Shapes.{HasText, rule_line, lexeme_line}

module _ {L : Type 0} (g : GrammarValue) (lex : L → Lex) (input : List ℕ) where
  abbrev mutual
    -- its productions are the grammar's, and its lexemes have texts
    pub CanShowTree : Tree L → Type 0
    CanShowTree (leaf x) = HasText g lex input x
    CanShowTree (node p f) = (p < length g.grammar.productions) × CanShowForest f

    pub CanShowForest : Forest L → Type 0
    CanShowForest none = Unit {0}
    CanShowForest (before t f) = CanShowTree t × CanShowForest f

  -- of a node's piece
  abbrev pub piece_line : ℕ → Option (Piece L) → List ℕ
  piece_line depth None = []
  piece_line depth (Some (term x)) = lexeme_line g lex input depth x
  piece_line depth (Some (nonterm p span n)) = rule_line g depth (head_of g.grammar p)

  abbrev pub visit_line : List (Piece L) → Visit → List ℕ
  visit_line pieces v = piece_line v.depth (slice_get pieces v.index)

  abbrev pub CanShowPiece : Option (Piece L) → Type 0
  CanShowPiece None = ⊥
  CanShowPiece (Some (term x)) = HasText g lex input x
  CanShowPiece (Some (nonterm p span n)) = p < length g.grammar.productions

  -- each visit is one of a node that can be shown
  abbrev pub CanVisit : List (Piece L) → List Visit → Type 0
  CanVisit pieces visits = (j : ℕ) (v : Visit) → slice_get visits j ≡ Some v → CanShowPiece (slice_get pieces v.index)
