-- How an outline is shown, whose leaves are the lexemes of a list.
use Rattle.std.specs.Prelude.{ℕ, ⊤, List, [], ◌∷◌, ◌++◌, slice_get, Option, None, Some, Result}
use Rattle.cfg_numbered.specs.Value.{GrammarValue}
use Rattle.cfg_theory.specs.Tree.{Tree, yield}
use Rattle.lrlex.specs.declared.lex_error.LRLexError.{LRLexError}
use Rattle.cfg_theory.specs.Fold.{no_span}
use Rattle.parse_trees.specs.FlatLines.{CanShowTree}
use Rattle.parse_trees.specs.FlatTrees.{FlatValue, flat}
use Rattle.parse_trees.specs.Lex.{span_by}
use Rattle.parse_trees.specs.Lexemes.{AreItems}
use Rattle.parse_trees.specs.Outlines.{OutlineValue, IsOutline, Symbol, at_leaf, at_prod, SymbolVisit}
use Rattle.text_parses.specs.Parses.{TextLexeme, lexeme_lex}
use Rattle.text_parses.specs.declared.form.Form.{Form}
use Rattle.text_parses.specs.declared.form.Form.TheVariants as forms
use Rattle.text_parses.specs.Quoted.{closed_from, lexeme_head, rule_head, space_at}

-- a node's beginning within an expression
abbrev pub leaf_head : GrammarValue → List ℕ → Option TextLexeme → List ℕ
leaf_head g input None = []
leaf_head g input (Some x) = lexeme_head g input x

abbrev pub symbol_head : GrammarValue → List ℕ → List TextLexeme → Symbol → List ℕ
symbol_head g input lexemes (at_leaf k) = leaf_head g input (slice_get lexemes k)
symbol_head g input lexemes (at_prod p) = rule_head g p

-- the nodes of a walk behind one of this depth, and the end of the line
abbrev pub symbols_sexp : GrammarValue → List ℕ → List TextLexeme → Option ℕ → List SymbolVisit → List ℕ
symbols_sexp g input lexemes last [] = closed_from last 0 ++ 10 ∷ []
symbols_sexp g input lexemes last (v ∷ vs) = ((closed_from last v.depth ++ space_at v.depth) ++ symbol_head g input lexemes v.symbol) ++ symbols_sexp g input lexemes (Some v.depth) vs

-- the outline is that of a tree which can be shown, and whose leaves are the items
pub record IsShown (g : GrammarValue) (input : List ℕ) (items : List (Result TextLexeme LRLexError)) (v : OutlineValue) (t : Tree TextLexeme) : Type 0 where
  pub leaves : AreItems items (yield t)
  pub outline : IsOutline t v
  pub can : CanShowTree g lexeme_lex input t

abbrev pub flat_tree : Tree TextLexeme → FlatValue TextLexeme
flat_tree t = record { pieces = flat (span_by lexeme_lex) no_span t }

-- a tree is written in this form as its outline is walked
abbrev pub IsWalked : Form → Type 0
IsWalked forms.Tree = ⊤
IsWalked forms.Sexp = ⊤
IsWalked forms.Dot = ⊥
IsWalked forms.Json = ⊥
IsWalked forms.Quiet = ⊥
