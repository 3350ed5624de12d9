-- The words of a line as the lexemes of a text.
use Rattle.std.specs.Prelude.{ℕ, List, map, Result, Ok, Err}
use Rattle.cfg_numbered.specs.Value.{GrammarValue}
use Rattle.lrlex.specs.declared.lex_error.LRLexError.{LRLexError}
use Rattle.lrlex.specs.declared.lex_error.LexErrorKind.TheVariants.{UnknownName}
use Rattle.text_parses.specs.Parses.{TextLexeme, itself}
use Rattle.word_lines.specs.Lexing.{items_of}
use Rattle.word_lines.specs.declared.lexeme.WordLexeme.{WordLexeme}
use Rattle.word_lines.specs.declared.lexeme.WordLexError.{WordLexError}

-- a word that is a token's name is a lexeme of that token, any other an error
abbrev pub text_item : Result (WordLexeme ℕ) WordLexError → Result TextLexeme LRLexError
text_item (Ok x) = Ok (record { tok_id = x.token; span = x.span; faulty = x.faulty })
text_item (Err e) = Err (record { span = e.span; kind = UnknownName })

abbrev pub line_items : GrammarValue → List ℕ → List (Result TextLexeme LRLexError)
line_items g line = map text_item (items_of itself g line)
