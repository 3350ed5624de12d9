-- Ready lexemes, what they print, and what contracts see of a lexer of a text. Offsets are in bytes.
use Rattle.std.specs.Prelude.{ℕ, List, Result, ◌++◌, codes}
use Rattle.std.specs.Fmt.{decimal}
use Rattle.cfg_base.specs.SpanModel.{SpanModel}
use Rattle.parse_trees.specs.Lex.{Lex}
use Rattle.lrpar.specs.declared.default_lexeme.DefaultLexeme.{DefaultLexeme}

-- a lexeme as numbers
abbrev pub lex_of : {S : Type 0} → (S → ℕ) → DefaultLexeme S → Lex
lex_of number x = record { token = number x.tok_id; places = x.span; faulty = x.faulty }

-- a lexeme, by its first byte and the one behind its last
abbrev pub lexeme_text : SpanModel → List ℕ
lexeme_text span = codes "DefaultLexeme[" ++ decimal span.start ++ codes ".." ++ decimal span.end ++ codes "]"

-- a part where no lexeme begins, by its first byte
abbrev pub lex_error_text : SpanModel → List ℕ
lex_error_text span = codes "Couldn't lex input starting at byte " ++ decimal span.start

-- a text, and the list of its lexer
pub record LexedText (L E : Type 0) : Type 0 where
  pub text : List ℕ
  pub items : List (Result L E)
