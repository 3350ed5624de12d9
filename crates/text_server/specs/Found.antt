-- How many errors are found of a text.
use Rattle.std.specs.Prelude.{◌≡◌, ℕ, ◌+◌, List, Result, length}
use Rattle.lrlex.specs.Lexing.{Lexes}
use Rattle.lrlex.specs.declared.bound.Meaning.{Meaning}
use Rattle.lrlex.specs.declared.lex_error.LRLexError.{LRLexError}
use Rattle.lrpar.specs.Checked.{ParserValue}
use Rattle.maximal_munch.specs.RuleValues.{RuleSetValue}
use Rattle.text_parses.specs.Parses.{IsParsed, TextLexeme}
use Rattle.text_parses.specs.declared.parsing.Parsed.{Parsed}
use Rattle.text_parses.specs.declared.parsing.Parsed.TheVariants as found

-- the most edits of a repair
abbrev pub edits : ℕ
edits = 3

-- none of a tree; the lexer's error; or those of the parse
abbrev pub error_count : Parsed → ℕ
error_count (found.Tree tree) = 0
error_count (found.Unlexed error) = 1
error_count (found.Unparsed errors) = length errors.items

-- from one count to another as many are added as a parse of the lexemes has
pub record FindsIn (d : ParserValue) (items : List (Result TextLexeme LRLexError)) (before after : ℕ) : Type 0 where
  pub parsed : Parsed
  pub is_parsed : IsParsed d items edits parsed
  pub count : after ≡ before + error_count parsed

-- the same of a text's lexemes
pub record Finds (d : ParserValue) (rules : RuleSetValue) (meanings : List (Meaning ℕ)) (text : List ℕ) (before after : ℕ) : Type 0 where
  pub items : List (Result TextLexeme LRLexError)
  pub lexes : Lexes rules meanings text items
  pub finds : FindsIn d items before after
