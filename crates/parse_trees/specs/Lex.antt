-- Lexemes as numbers.
use Rattle.std.specs.Prelude.{ℕ, ◌+◌, Bool, false, nat_lt, Result, Ok, Err}
use Rattle.cfg_base.specs.SpanModel.{SpanModel}
use Rattle.cfg_theory.specs.Fold.{Span}
use Rattle.parse_trees.specs.Stacks.{span_of_places}

-- a token, its places, and whether it was made up by a repair
pub record Lex : Type 0 where
  pub token : ℕ
  pub places : SpanModel
  pub faulty : Bool

-- the lexeme of `len` bytes from `start`
abbrev pub lex_at : ℕ → ℕ → ℕ → Bool → Lex
lex_at token start len faulty = record { token = token; places = record { start = start; end = start + len }; faulty = faulty }

-- the item is a lexeme of a token below `tokens`
abbrev pub is_in : {L E : Type 0} → (L → Lex) → ℕ → Result L E → Bool
is_in lex tokens (Ok x) = nat_lt (lex x).token tokens
is_in lex tokens (Err e) = false

-- a lexeme's token, and its span
abbrev pub token_by : {L : Type 0} → (L → Lex) → L → ℕ
token_by lex x = (lex x).token

abbrev pub span_by : {L : Type 0} → (L → Lex) → L → Span
span_by lex x = span_of_places (lex x).places
