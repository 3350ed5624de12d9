-- What the list of a lexer comes to.
use Rattle.std.specs.Prelude.{ℕ, List, Result}
use Rattle.cfg_theory.specs.Grammar.{Grammar}
use Rattle.cfg_theory.specs.Tree.{Tree}
use Rattle.lr_theory.specs.Repair.{Edit}
use Rattle.state_table.specs.Graphs.{GraphValue}
use Rattle.state_table.specs.TableValues.{TableValue}
use Rattle.state_table.specs.Tables.{automaton_of}
use Rattle.parse_trees.specs.Lex.{Lex, token_by}
use Rattle.parse_trees.specs.Lexemes.{AreItems, IsFirstLexError, AreLexemes}
use Rattle.lrpar.specs.Made.{end_of, made_by}
use Rattle.lrpar.specs.Parses.{HoldsValue, IsParse}
use Rattle.lrpar.specs.Parsing.{errors_of}
use Rattle.lrpar.specs.declared.parser.Outcome.{Outcome}
use Rattle.lrpar.specs.declared.parser.Outcome.TheVariants as outcomes

-- the first fault of the list, or the parse of its lexemes, which are kept
abbrev pub IsOutcome : {S L E V : Type 0} → (S → ℕ) → (L → Lex) → (ℕ → ℕ → ℕ → L) → Grammar → GraphValue → TableValue → (V → List (Tree L) → Type 0) → (ℕ → ℕ → L → List (List Edit) → Type 0) → List (Result L E) → Outcome S L E V → Type 0
IsOutcome number lex faulty G g v holds answers items (outcomes.Fault e) = IsFirstLexError items e
IsOutcome number lex faulty G g v holds answers items (outcomes.Parsed lexemes p) = AreItems items lexemes × AreLexemes G lex lexemes ×
    IsParse G (automaton_of g v) (token_by lex) (made_by faulty lex (end_of lex lexemes)) answers (HoldsValue (holds p.values) p.accepted) lexemes (errors_of number p.errors.items)

-- what no call changes of a stack of values, the one handed out has too
abbrev pub OutcomeKeeps : {S L E V : Type 0} → (V → Type 0) → Outcome S L E V → Type 0
OutcomeKeeps keeps (outcomes.Fault e) = Unit {0}
OutcomeKeeps keeps (outcomes.Parsed lexemes p) = keeps p.values
