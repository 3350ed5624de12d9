-- Words as the items of a lexer's list.
use Rattle.std.specs.Prelude.{ℕ, ◌+◌, ◌<◌, false, List, length, map, Option, None, Some, Result, Ok, Err}
use Rattle.cfg_base.specs.SpanModel.{SpanModel}
use Rattle.cfg_numbered.specs.Value.{GrammarValue}
use Rattle.cfg_theory.specs.Grammar.{Grammar, end_token}
use Rattle.parse_trees.specs.Lex.{Lex}
use Rattle.word_lines.specs.Words.{Word, words, words_in, token_named}
use Rattle.word_lines.specs.declared.lexeme.WordLexeme.{WordLexeme}
use Rattle.word_lines.specs.declared.lexeme.WordLexError.{WordLexError}

-- what contracts see of a lexer: its line, and the list
pub record LexedLine (S : Type 0) : Type 0 where
  pub text : List ℕ
  pub items : List (Result (WordLexeme S) WordLexError)

-- a lexeme as numbers
abbrev pub lex_of : {S : Type 0} → (S → ℕ) → WordLexeme S → Lex
lex_of number x = record { token = number x.token; places = x.span; faulty = x.faulty }

abbrev pub span_of : Word → SpanModel
span_of w = record { start = w.start; end = w.start + length w.text }

-- a word that names the token t
abbrev pub lexeme_of : {S : Type 0} → (ℕ → S) → Word → ℕ → WordLexeme S
lexeme_of of_number w t = record { token = of_number t; span = span_of w; faulty = false }

-- a word that names this token, or none
abbrev pub item_by : {S : Type 0} → (ℕ → S) → Word → Option ℕ → Result (WordLexeme S) WordLexError
item_by of_number w (Some t) = Ok (lexeme_of of_number w t)
item_by of_number w None = Err (record { span = span_of w })

abbrev pub item_of : {S : Type 0} → (ℕ → S) → GrammarValue → Word → Result (WordLexeme S) WordLexError
item_of of_number g w = item_by of_number w (token_named g w.text)

-- the items of the words among parts that stand from the place on
abbrev pub items_in : {S : Type 0} → (ℕ → S) → GrammarValue → ℕ → List (List ℕ) → List (Result (WordLexeme S) WordLexError)
items_in of_number g at parts = map (item_of of_number g) (words_in at parts)

-- the items of a line
abbrev pub items_of : {S : Type 0} → (ℕ → S) → GrammarValue → List ℕ → List (Result (WordLexeme S) WordLexError)
items_of of_number g line = map (item_of of_number g) (words line)

-- a lexeme of a token other than the end, or an error
abbrev pub IsInside : {S : Type 0} → (S → ℕ) → Grammar → Result (WordLexeme S) WordLexError → Type 0
IsInside number G (Ok x) = number x.token < end_token G
IsInside number G (Err e) = Unit {0}
