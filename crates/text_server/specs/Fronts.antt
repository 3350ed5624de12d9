-- The lexemes before a place, and the tokens that may come behind them.
use Rattle.std.specs.Prelude.{ℕ, Bool, true, false, ◌||◌, nat_le, nat_lt, if◌then◌else◌, List, [], ◌∷◌, Option, None, Some, Result, Ok, Err}
use Rattle.lr_theory.specs.Machine.{Config}
use Rattle.lrlex.specs.declared.lex_error.LRLexError.{LRLexError}
use Rattle.lrpar.specs.Checked.{ParserValue}
use Rattle.lrpar.specs.NextTokens.{AreNext, HasError, Reaches}
use Rattle.parse_trees.specs.Lex.{token_by}
use Rattle.state_table.specs.Tables.{automaton_of}
use Rattle.text_parses.specs.Parses.{TextLexeme, lexeme_lex}
use Rattle.vob.specs.Packed.{Contents}

-- the lexemes up to the first that ends behind an offset
abbrev pub fronts : ℕ → List (Result TextLexeme LRLexError) → List TextLexeme
fronts cut [] = []
fronts cut (Ok x ∷ items) = if nat_le x.span.end cut then x ∷ fronts cut items else []
fronts cut (Err e ∷ items) = []

-- whether the lexer has an error before an offset
abbrev pub has_error_before : ℕ → List (Result TextLexeme LRLexError) → Bool
has_error_before cut [] = false
has_error_before cut (Ok x ∷ items) = has_error_before cut items
has_error_before cut (Err e ∷ items) = nat_lt e.span.start cut || has_error_before cut items

-- a bit for each token: it is set where the token may come behind the lexemes
pub record AreExpected (d : ParserValue) (lexemes : List TextLexeme) (bits : List Bool) : Type 0 where
  pub at : Config TextLexeme
  pub reaches : Reaches d.grammar.grammar (automaton_of d.graph d.table) (token_by lexeme_lex) lexemes [] at
  pub next : AreNext d.grammar.grammar (automaton_of d.graph d.table) (token_by lexeme_lex) at bits

-- such bits, or none where the lexemes have an error
abbrev pub IsExpected : ParserValue → List TextLexeme → Option Contents → Type 0
IsExpected d lexemes None = HasError d.grammar.grammar (automaton_of d.graph d.table) (token_by lexeme_lex) lexemes
IsExpected d lexemes (Some v) = AreExpected d lexemes v.bits
