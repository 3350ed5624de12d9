-- The text of an error of lexing or of parsing.
use Rattle.std.specs.Prelude.{◌≤◌, ℕ, List, length}
use Rattle.std.specs.List.{AllByRecursion}
use Rattle.cfg_base.specs.SpanModel.{SpanModel}
use Rattle.parse_trees.specs.Lex.{Lex}
use Rattle.parse_trees.specs.Shown.{shown_lists}
use Rattle.parse_trees.specs.ErrorTexts.{lexing_error_text, parsing_error_text, EditFits}
use Rattle.lrpar.specs.declared.parse_error.LexParseError.{LexParseError}
use Rattle.lrpar.specs.declared.parse_error.LexParseError.TheVariants as errors

module _ {T S L E : Type 0} (number : S → ℕ) (input : List ℕ) (lex : L → Lex) (places : E → SpanModel) where
  abbrev pub error_text : (ℕ → List ℕ) → LexParseError T L S E → List ℕ
  error_text names (errors.LexError e) = lexing_error_text input (places e)
  error_text names (errors.ParseError e) = parsing_error_text names input lex e.lexeme (shown_lists number e.repairs.items)

  -- its span lies within the input, and what its repairs show fits the input
  abbrev pub ErrorFits : LexParseError T L S E → Type 0
  ErrorFits (errors.LexError e) = (places e).end ≤ length input
  ErrorFits (errors.ParseError e) = ((lex e.lexeme).places.end ≤ length input) × AllByRecursion (AllByRecursion (EditFits input lex)) (shown_lists number e.repairs.items)
