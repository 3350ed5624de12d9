-- The tokens that may come next.
use Rattle.std.specs.Prelude.{◌≡◌, ℕ, Bool, false, List, [], length, Option, None, Some, slice_get, unwrap_or, Vec}
use Rattle.std.specs.Global.{Global}
use Rattle.lr_theory.specs.Machine.{Config}
use Rattle.lrlex.specs.Lexing.{numbers_below}
use Rattle.lrpar.specs.Checked.{ParserValue}
use Rattle.lrpar.specs.NextTokens.{AreNext, HasError, Reaches}
use Rattle.parse_trees.specs.Lex.{token_by}
use Rattle.state_table.specs.Tables.{automaton_of}
use Rattle.lrkit_c.specs.Answers.{Puts, PutsNothing}
use Rattle.lrkit_c.specs.Nodes.{TextLexeme}
use Rattle.lrkit_c.specs.Parses.{lexeme_lex}
use Rattle.lrkit_c.specs.declared.answers.LrkitAnswer.{LrkitAnswer}
use Rattle.lrkit_c.specs.declared.status.Status.TheVariants as statuses

-- the numbers whose bits are set, ascending
abbrev pub numbers_of : List Bool → List ℕ
numbers_of bits = numbers_below (λ k. unwrap_or (slice_get bits k) false) (length bits)

-- the tokens whose lexemes are shifted, and the end token where the run accepts, from where it comes to on these lexemes
pub record AreExpected (d : ParserValue) (lexemes : List TextLexeme) (tokens : List ℕ) : Type 0 where
  pub bits : List Bool
  pub at : Config TextLexeme
  pub reaches : Reaches d.grammar.grammar (automaton_of d.graph d.table) (token_by lexeme_lex) lexemes [] at
  pub next : AreNext d.grammar.grammar (automaton_of d.graph d.table) (token_by lexeme_lex) at bits
  pub are : tokens ≡ numbers_of bits

-- and none where the lexemes have an error
abbrev pub IsExpected : ParserValue → List TextLexeme → Option (Vec ℕ Global) → Type 0
IsExpected d lexemes None = HasError d.grammar.grammar (automaton_of d.graph d.table) (token_by lexeme_lex) lexemes
IsExpected d lexemes (Some tokens) = AreExpected d lexemes tokens.items

-- they are put; or the lexemes have an error, or memory is refused
pub data TellsExpected (d : ParserValue) (lexemes : List TextLexeme) (old new : List ℕ) (a : LrkitAnswer) : Type 0 where
  told : (tokens : List ℕ) → AreExpected d lexemes tokens → Puts statuses.Done tokens old new a → TellsExpected d lexemes old new a
  error : HasError d.grammar.grammar (automaton_of d.graph d.table) (token_by lexeme_lex) lexemes → PutsNothing statuses.Syntax old new a → TellsExpected d lexemes old new a
  memory : PutsNothing statuses.Memory old new a → TellsExpected d lexemes old new a
