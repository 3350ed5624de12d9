-- Errors as a parse hands them out.
use Rattle.std.specs.Prelude.{◌≡◌, ℕ, List, [], ◌∷◌, map, drop, Option, None, Result}
use Rattle.cfg_theory.specs.Grammar.{Grammar}
use Rattle.cfg_theory.specs.Tree.{Tree}
use Rattle.cfg_theory.specs.Fold.{Answers}
use Rattle.lr_theory.specs.Repair.{Edit}
use Rattle.state_table.specs.Graphs.{GraphValue}
use Rattle.state_table.specs.TableValues.{TableValue}
use Rattle.state_table.specs.Tables.{automaton_of}
use Rattle.parse_trees.specs.Lex.{Lex, token_by, span_by}
use Rattle.parse_trees.specs.Lexemes.{AreItems, IsFirstLexError, AreLexemes}
use Rattle.lrpar.specs.Made.{end_of, made_by}
use Rattle.lrpar.specs.Parses.{ErrorValue, HasValue, IsParse}
use Rattle.parse_trees.specs.Shown.{ShownEdit, shown, shown_lists}
use Rattle.lrpar.specs.declared.parse_error.ParseError.{ParseError}
use Rattle.lrpar.specs.declared.folded_parse.FoldedOutcome.{FoldedOutcome}
use Rattle.lrpar.specs.declared.folded_parse.FoldedOutcome.TheVariants as folded

-- an error with the lexemes that its sequences delete or keep
pub record ToldError (L : Type 0) : Type 0 where
  pub state : ℕ
  pub lexeme : L
  pub repairs : List (List (ShownEdit L))

abbrev pub told_of : {S L : Type 0} → (S → ℕ) → ParseError L S → ToldError L
told_of number e = record { state = number e.stidx.0; lexeme = e.lexeme; repairs = shown_lists number e.repairs.items }

-- what is told of an error among these lexemes
abbrev pub as_told : {L : Type 0} → List L → ErrorValue L → ToldError L
as_told lexemes e = record { state = e.state; lexeme = e.lexeme; repairs = map (λ es. shown es (drop e.index lexemes)) e.repairs }

-- the parse of a list's lexemes, whose tree or none `gives` speaks of, and its errors as they are told
pub record IsToldParse {S L E : Type 0} (number : S → ℕ) (lex : L → Lex) (faulty : ℕ → ℕ → ℕ → L) (G : Grammar) (g : GraphValue) (v : TableValue) (gives : Option (Tree L) → Type 0) (answers : ℕ → ℕ → L → List (List Edit) → Type 0) (items : List (Result L E)) (errors : List (ParseError L S)) : Type 0 where
  pub lexemes : List L
  pub are_items : AreItems items lexemes
  pub are_lexemes : AreLexemes G lex lexemes
  pub found : List (ErrorValue L)
  pub parse : IsParse G (automaton_of g v) (token_by lex) (made_by faulty lex (end_of lex lexemes)) answers gives lexemes found
  pub told : map (told_of number) errors ≡ map (as_told lexemes) found

-- or the list's first fault; `gives` holds of the value or none and of the tree or none
abbrev pub IsReportedOutcome : {S L E V : Type 0} → (S → ℕ) → (L → Lex) → (ℕ → ℕ → ℕ → L) → Grammar → GraphValue → TableValue → (Option V → Option (Tree L) → Type 0) → (ℕ → ℕ → L → List (List Edit) → Type 0) → List (Result L E) → FoldedOutcome S L E V → Type 0
IsReportedOutcome number lex faulty G g v gives answers items (folded.Fault e) = IsFirstLexError items e
IsReportedOutcome number lex faulty G g v gives answers items (folded.Parsed value errors) = IsToldParse number lex faulty G g v (gives value) answers items errors.items

-- the value is one that the tree folds to
abbrev pub IsFoldedOutcome : {S L E V : Type 0} → (S → ℕ) → (L → Lex) → (ℕ → ℕ → ℕ → L) → Grammar → GraphValue → TableValue → Answers L V → (ℕ → ℕ → L → List (List Edit) → Type 0) → List (Result L E) → FoldedOutcome S L E V → Type 0
IsFoldedOutcome number lex faulty G g v by answers items outcome = IsReportedOutcome number lex faulty G g v (HasValue G by (span_by lex)) answers items outcome

-- the value and errors that are handed out of an outcome, with a fault and an error of the parse each as one of these
abbrev pub HandsOut : {S L E V X : Type 0} → (E → X) → (ParseError L S → X) → FoldedOutcome S L E V → Option V → List X → Type 0
HandsOut fault wrong (folded.Fault e) value errors = (value ≡ None) × (errors ≡ fault e ∷ [])
HandsOut fault wrong (folded.Parsed v es) value errors = (value ≡ v) × (errors ≡ map wrong es.items)

-- what is handed out of a lexer's list: the value and the errors of what it comes to
pub record IsHandedOut {S L E V X : Type 0} (fault : E → X) (wrong : ParseError L S → X) (number : S → ℕ) (lex : L → Lex) (faulty : ℕ → ℕ → ℕ → L) (G : Grammar) (g : GraphValue) (v : TableValue) (gives : Option V → Option (Tree L) → Type 0) (answers : ℕ → ℕ → L → List (List Edit) → Type 0) (items : List (Result L E)) (value : Option V) (errors : List X) : Type 0 where
  pub outcome : FoldedOutcome S L E V
  pub comes_to : IsReportedOutcome number lex faulty G g v gives answers items outcome
  pub hands_out : HandsOut fault wrong outcome value errors
