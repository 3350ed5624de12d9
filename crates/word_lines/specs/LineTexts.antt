-- The texts of a line's errors, and of its tree.
use Rattle.std.specs.Prelude.{ℕ, List, [], ◌∷◌, ◌++◌, length, ◌≤◌, nat_lt, slice_get, option_map, codes, if◌then◌else◌, Option, None, Some}
use Rattle.std.specs.Fmt.{decimal}
use Rattle.std.specs.List.{AllByRecursion}
use Rattle.cfg_numbered.specs.Value.{GrammarValue, shown_text}
use Rattle.cfg_theory.specs.Tree.{Tree}
use Rattle.parse_trees.specs.ErrorTexts.{EditFits, lexing_error_text, parsing_error_text}
use Rattle.parse_trees.specs.FlatLines.{CanShowTree}
use Rattle.parse_trees.specs.FlatTrees.{FlatValue, IsFlat}
use Rattle.parse_trees.specs.Lex.{span_by}
use Rattle.parse_trees.specs.Shapes.{joined, shape, tree_text}
use Rattle.parse_trees.specs.Shown.{shown_lists}
use Rattle.lrpar.specs.declared.parse_error.ParseError.{ParseError}
use Rattle.word_lines.specs.Lexing.{lex_of}
use Rattle.word_lines.specs.declared.lexeme.WordLexeme.{WordLexeme}
use Rattle.word_lines.specs.declared.lexeme.WordLexError.{WordLexError}

-- the text by which messages show a token of the grammar: that of `%epp`, else its name; the end token has none
abbrev pub message_text : GrammarValue → ℕ → Option (List ℕ)
message_text g t = if nat_lt t g.grammar.tokens then joined (option_map shown_text (slice_get g.tokens t)) else None

-- one without a text is shown by its number
abbrev pub text_or_number : ℕ → Option (List ℕ) → List ℕ
text_or_number t None = codes "token " ++ decimal t
text_or_number t (Some text) = text

abbrev pub shown_name : GrammarValue → ℕ → List ℕ
shown_name g t = text_or_number t (message_text g t)

-- the text of an error of lexing a line, and LF
abbrev pub fault_line : List ℕ → WordLexError → List ℕ
fault_line line e = lexing_error_text line e.span ++ 10 ∷ []

module _ {S : Type 0} (number : S → ℕ) (g : GrammarValue) (line : List ℕ) where
  -- the text of an error of parsing it, and LF
  abbrev pub error_line : ParseError (WordLexeme S) S → List ℕ
  error_line e = parsing_error_text (shown_name g) line (lex_of number) e.lexeme (shown_lists number e.repairs.items) ++ 10 ∷ []

  -- the text of a tree, if there is one
  abbrev pub value_text : Option (Tree (WordLexeme S)) → List ℕ
  value_text None = []
  value_text (Some t) = tree_text g (lex_of number) line 0 (shape g.grammar t)

  -- an error lies within the line, and what its repairs show fits it
  abbrev pub ErrorCanBeShown : ParseError (WordLexeme S) S → Type 0
  ErrorCanBeShown e = (e.lexeme.span.end ≤ length line) × AllByRecursion (AllByRecursion (EditFits line (lex_of number))) (shown_lists number e.repairs.items)

  -- the tree, if there is one, has texts of the line
  abbrev pub TreeCanBeShown : Option (FlatValue (WordLexeme S)) → Type 0
  TreeCanBeShown None = Unit {0}
  TreeCanBeShown (Some v) = (t : Tree (WordLexeme S)) × IsFlat (span_by (lex_of number)) t v.pieces × CanShowTree g (lex_of number) line t
