-- How an outline is shown: its leaves are these lexemes.
use Rattle.std.specs.Prelude.{◌≡◌, ℕ, ◌<◌, List, [], length, slice_get, Option, None, Some}
use Rattle.cfg_theory.specs.Grammar.{head_of}
use Rattle.cfg_numbered.specs.Value.{GrammarValue}
use Rattle.parse_trees.specs.Lex.{Lex}
use Rattle.parse_trees.specs.Outlines.{Symbol, at_leaf, at_prod, SymbolVisit}
use Rattle.parse_trees.specs.Shapes.{HasText, rule_line, lexeme_line}

module _ {L : Type 0} (g : GrammarValue) (lex : L → Lex) (input : List ℕ) where
  abbrev pub leaf_line : ℕ → Option L → List ℕ
  leaf_line depth None = []
  leaf_line depth (Some x) = lexeme_line g lex input depth x

  abbrev pub symbol_line : List L → ℕ → Symbol → List ℕ
  symbol_line lexemes depth (at_leaf k) = leaf_line depth (slice_get lexemes k)
  symbol_line lexemes depth (at_prod p) = rule_line g depth (head_of g.grammar p)

  abbrev pub symbol_visit_line : List L → SymbolVisit → List ℕ
  symbol_visit_line lexemes v = symbol_line lexemes v.depth v.symbol

  abbrev pub CanShowLeaf : Option L → Type 0
  CanShowLeaf None = ⊥
  CanShowLeaf (Some x) = HasText g lex input x

  abbrev pub CanShowSymbol : List L → Symbol → Type 0
  CanShowSymbol lexemes (at_leaf k) = CanShowLeaf (slice_get lexemes k)
  CanShowSymbol lexemes (at_prod p) = p < length g.grammar.productions

  -- each visit is one of a node that can be shown
  abbrev pub CanShowSymbols : List L → List SymbolVisit → Type 0
  CanShowSymbols lexemes visits = (j : ℕ) (v : SymbolVisit) → slice_get visits j ≡ Some v → CanShowSymbol lexemes v.symbol
