-- That the errors and the tree of a parse can be shown over the text of its lexemes.
use Rattle.std.specs.Prelude.{◌≡◌, ℕ, ◌≤◌, true, List, [], ◌∷◌, length, drop, Option, Some, Result}
use Rattle.std.specs.List.{AllByRecursion}
use Rattle.std.specs.Str.{IsUtf8}
use Rattle.cfg_numbered.specs.Value.{GrammarValue}
use Rattle.cfg_theory.specs.Grammar.{WellFormed, end_token}
use Rattle.cfg_theory.specs.Tree.{Tree}
use Rattle.lr_theory.specs.Automaton.{Automaton}
use Rattle.lr_theory.specs.Repair.{Edit, insert, delete, keep}
use Rattle.state_table.specs.Graphs.{GraphValue}
use Rattle.state_table.specs.TableValues.{TableValue}
use Rattle.parse_trees.specs.ErrorTexts.{EditFits, FitsInput}
use Rattle.parse_trees.specs.FlatLines.{CanShowTree}
use Rattle.lrpar.specs.FlatParses.{IsFlatParse}
use Rattle.parse_trees.specs.FlatTrees.{FlatValue, IsFlat}
use Rattle.parse_trees.specs.Lex.{Lex, lex_at, span_by, token_by}
use Rattle.parse_trees.specs.Lexemes.{AreItems}
use Rattle.lrpar.specs.Made.{end_of, made_by}
use Rattle.lrpar.specs.Parses.{ErrorValue, IsParse}
use Rattle.parse_trees.specs.Shown.{shown, shown_lists}
use Rattle.lrpar.specs.declared.parse_error.ParseError.{ParseError}

-- its places are a part of the text, from the start of a character to that of another
abbrev pub FitsText : {L : Type 0} → List ℕ → (L → Lex) → L → Type 0
FitsText input lex x = FitsInput input (lex x).places.start (lex x).places.end

-- no token past the top is inserted
abbrev pub InsertsWithin : ℕ → List Edit → Type 0
InsertsWithin top [] = Unit {0}
InsertsWithin top (insert t ∷ es) = (t ≤ top) × InsertsWithin top es
InsertsWithin top (delete ∷ es) = InsertsWithin top es
InsertsWithin top (keep ∷ es) = InsertsWithin top es

-- a text with a grammar, whose lexemes are made up of tokens up to the top, and no others are inserted by what may be handed in
pub record MakesWithin {L : Type 0} (top : ℕ) (g : GrammarValue) (lex : L → Lex) (faulty : ℕ → ℕ → ℕ → L) (answers : ℕ → ℕ → L → List (List Edit) → Type 0) (input : List ℕ) : Type 0 where
  pub text : IsUtf8 input
  pub well_formed : WellFormed g.grammar
  pub end : end_token g.grammar ≤ top
  pub makes : (t start len : ℕ) → t ≤ top → lex (faulty t start len) ≡ lex_at t start len true
  pub inserts : (state index : ℕ) (x : L) (offered : List (List Edit)) → answers state index x offered → AllByRecursion (InsertsWithin top) offered

-- its lexeme ends within the text, and what its repairs show fits it
abbrev pub ValueFits : {L : Type 0} → List ℕ → (L → Lex) → List L → ErrorValue L → Type 0
ValueFits input lex lexemes e = ((lex e.lexeme).places.end ≤ length input) × AllByRecursion (λ es. AllByRecursion (EditFits input lex) (shown es (drop e.index lexemes))) e.repairs

-- the same of an error that is handed out
abbrev pub ParseErrorFits : {S L : Type 0} → (S → ℕ) → List ℕ → (L → Lex) → ParseError L S → Type 0
ParseErrorFits number input lex e = ((lex e.lexeme).places.end ≤ length input) × AllByRecursion (AllByRecursion (EditFits input lex)) (shown_lists number e.repairs.items)

-- where each lexeme fits the text
pub record ParsesCanBeShown (L : Type 0) (answers : ℕ → ℕ → L → List (List Edit) → Type 0) (gives : Option (Tree L) → Type 0) : Type 0 where
  pub errors : (top : ℕ) (g : GrammarValue) (a : Automaton) (lex : L → Lex) (faulty : ℕ → ℕ → ℕ → L) (input : List ℕ)
      (lexemes : List L) (found : List (ErrorValue L)) → MakesWithin top g lex faulty answers input → AllByRecursion (FitsText input lex) lexemes →
      IsParse g.grammar a (token_by lex) (made_by faulty lex (end_of lex lexemes)) answers gives lexemes found → AllByRecursion (ValueFits input lex lexemes) found
  pub tree : (top : ℕ) (g : GrammarValue) (a : Automaton) (lex : L → Lex) (faulty : ℕ → ℕ → ℕ → L) (input : List ℕ)
      (lexemes : List L) (found : List (ErrorValue L)) → MakesWithin top g lex faulty answers input → AllByRecursion (FitsText input lex) lexemes →
      (p : IsParse g.grammar a (token_by lex) (made_by faulty lex (end_of lex lexemes)) answers gives lexemes found) → (t : Tree L) → p.parsed.tree ≡ Some t → CanShowTree g lex input t

-- and of what a lexer's list is parsed to
pub record FlatParsesCanBeShown (S L E : Type 0) (answers : ℕ → ℕ → L → List (List Edit) → Type 0) : Type 0 where
  pub errors : (top : ℕ) (number : S → ℕ) (g : GrammarValue) (graph : GraphValue) (table : TableValue) (lex : L → Lex) (faulty : ℕ → ℕ → ℕ → L) (input : List ℕ)
      (items : List (Result L E)) (value : Option (FlatValue L)) (errors : List (ParseError L S)) → MakesWithin top g lex faulty answers input →
      ((lexemes : List L) → AreItems items lexemes → AllByRecursion (FitsText input lex) lexemes) →
      IsFlatParse number lex faulty g.grammar graph table answers items value errors → AllByRecursion (ParseErrorFits number input lex) errors
  pub tree : (top : ℕ) (number : S → ℕ) (g : GrammarValue) (graph : GraphValue) (table : TableValue) (lex : L → Lex) (faulty : ℕ → ℕ → ℕ → L) (input : List ℕ)
      (items : List (Result L E)) (v : FlatValue L) (errors : List (ParseError L S)) → MakesWithin top g lex faulty answers input →
      ((lexemes : List L) → AreItems items lexemes → AllByRecursion (FitsText input lex) lexemes) →
      IsFlatParse number lex faulty g.grammar graph table answers items (Some v) errors → (t : Tree L) × IsFlat (span_by lex) t v.pieces × CanShowTree g lex input t
