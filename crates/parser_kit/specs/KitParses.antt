-- What parses of a kit come to, past what is so of each checked table.
use Rattle.std.specs.Prelude.{◌≡◌, ◌↔◌, ℕ, List, [], ◌∷◌, map, Option, None, Some, Result}
use Rattle.std.specs.List.{AllByRecursion, AllZip}
use Rattle.cfg_theory.specs.Derivation.{AllProductive, IsSentence}
use Rattle.cfg_theory.specs.Fold.{Answers}
use Rattle.cfg_theory.specs.Grammar.{Grammar, start_symbol}
use Rattle.cfg_theory.specs.Tree.{Tree, IsDerivation}
use Rattle.lr_theory.specs.Automaton.{Automaton, Complete}
use Rattle.lr_theory.specs.Machine.{accepted, run, start_config}
use Rattle.lr_theory.specs.Repair.{Edit, IsTrueError}
use Rattle.lrpar.specs.Checked.{ParserValue}
use Rattle.parse_trees.specs.Lex.{Lex, span_by, token_by}
use Rattle.parse_trees.specs.Lexemes.{AreItems, IsFirstLexError, AreLexemes}
use Rattle.lrpar.specs.Made.{end_of, made_by}
use Rattle.lrpar.specs.Parses.{ErrorValue, FitsAt, HasValue, IsFlawless, IsParse}
use Rattle.lrpar.specs.Told.{as_told, told_of}
use Rattle.lrpar.specs.declared.folded_parse.FoldedOutcome.{FoldedOutcome}
use Rattle.lrpar.specs.declared.folded_parse.FoldedOutcome.TheVariants as folded
use Rattle.lrpar.specs.declared.parse_error.ParseError.{ParseError}
use Rattle.state_table.specs.Tables.{automaton_of}

-- what a reader of a parse knows of it where the machine is that of the grammar's table
pub record IsExactParse {L : Type 0} (G : Grammar) (a : Automaton) (tok : L → ℕ) (make : ℕ → List L → L) (answers : ℕ → ℕ → L → List (List Edit) → Type 0) (gives : Option (Tree L) → Type 0) (lexemes : List L) (errors : List (ErrorValue L)) : Type 0 where
  pub parse : IsParse G a tok make answers gives lexemes errors
  -- where each rule derives some text, each listed sequence fits
  pub fits : AllProductive G → AllZip (λ d e. AllByRecursion (FitsAt G a tok make d) e.repairs) parse.parsed.places errors
  -- a complete table gives each derivation of the lexemes, with no error
  pub flawless : Complete G a → (t : Tree L) → IsDerivation G tok (start_symbol G) lexemes t → IsFlawless G a tok lexemes t parse.parsed.tree errors
  -- and repairs leave no trace: the tree is that of a run with no repairs on the lexemes as repaired, and each error is that of such a run
  pub same_value : Complete G a → (t : Tree L) → parse.parsed.tree ≡ Some t → (n : ℕ) × (run G a tok n (start_config a parse.parsed.repaired) ≡ accepted t)
  pub true_errors : Complete G a → AllProductive G → AllByRecursion (IsTrueError G a tok (start_symbol G)) parse.parsed.places

-- the parse of a list's lexemes with the kit's table, a value or none, which `gives` tells of a tree or none, and its errors as they are told
pub record IsKitParse {S L E : Type 0} (number : S → ℕ) (lex : L → Lex) (faulty : ℕ → ℕ → ℕ → L) (d : ParserValue) (answers : ℕ → ℕ → L → List (List Edit) → Type 0) (items : List (Result L E)) (gives : Option (Tree L) → Type 0) (errors : List (ParseError L S)) : Type 0 where
  pub lexemes : List L
  pub are_items : AreItems items lexemes
  pub are_lexemes : AreLexemes d.grammar.grammar lex lexemes
  pub found : List (ErrorValue L)
  pub exact : IsExactParse d.grammar.grammar (automaton_of d.graph d.table) (token_by lex) (made_by faulty lex (end_of lex lexemes)) answers gives lexemes found
  pub told : map (told_of number) errors ≡ map (as_told lexemes) found

-- or the list's first fault
abbrev pub IsKitOutcome : {S L E V : Type 0} → (S → ℕ) → (L → Lex) → (ℕ → ℕ → ℕ → L) → ParserValue → Answers L V → (ℕ → ℕ → L → List (List Edit) → Type 0) → List (Result L E) → FoldedOutcome S L E V → Type 0
IsKitOutcome number lex faulty d by answers items (folded.Fault e) = IsFirstLexError items e
IsKitOutcome number lex faulty d by answers items (folded.Parsed value es) = IsKitParse number lex faulty d answers items (HasValue d.grammar.grammar by (span_by lex) value) es.items

-- P holds of the value and the errors of an outcome; of a fault of the lexer nothing is said
abbrev pub WhereParsed : {S L E V : Type 0} → (Option V → List (ParseError L S) → Type 0) → FoldedOutcome S L E V → Type 0
WhereParsed P (folded.Fault e) = Unit {0}
WhereParsed P (folded.Parsed value es) = P value es.items

-- lexemes come through with no errors exactly where they are a sentence, and then with their only tree
pub record FollowsSentences {L X : Type 0} (G : Grammar) (tok : L → ℕ) (gives : Option (Tree L) → Type 0) (lexemes : List L) (errors : List X) : Type 0 where
  pub sentences : (errors ≡ []) ↔ IsSentence G (start_symbol G) (map tok lexemes)
  pub value : (t : Tree L) → IsDerivation G tok (start_symbol G) lexemes t → gives (Some t)
  pub only_tree : (t u : Tree L) → IsDerivation G tok (start_symbol G) lexemes t → IsDerivation G tok (start_symbol G) lexemes u → t ≡ u

-- the same of the lexemes of a lexer's list
abbrev pub ItemsFollowSentences : {L E X : Type 0} → (L → Lex) → Grammar → List (Result L E) → (Option (Tree L) → Type 0) → List X → Type 0
ItemsFollowSentences {L} lex G items gives errors = (lexemes : List L) → AreItems items lexemes → FollowsSentences G (token_by lex) gives lexemes errors

-- Repairs leave no trace: the value is that of a run with no repairs on the lexemes as repaired, and each error stands
-- where what came before it, earlier errors repaired, begins a sentence, and with the next lexeme none.
pub record LeavesNoTrace {S L E : Type 0} (number : S → ℕ) (lex : L → Lex) (faulty : ℕ → ℕ → ℕ → L) (d : ParserValue) (answers : ℕ → ℕ → L → List (List Edit) → Type 0) (items : List (Result L E)) (gives : Option (Tree L) → Type 0) (errors : List (ParseError L S)) : Type 0 where
  pub lexemes : List L
  pub are_items : AreItems items lexemes
  pub found : List (ErrorValue L)
  pub parse : IsParse d.grammar.grammar (automaton_of d.graph d.table) (token_by lex) (made_by faulty lex (end_of lex lexemes)) answers gives lexemes found
  pub told : map (told_of number) errors ≡ map (as_told lexemes) found
  pub same_value : (t : Tree L) → parse.parsed.tree ≡ Some t → (n : ℕ) × (run d.grammar.grammar (automaton_of d.graph d.table) (token_by lex) n (start_config (automaton_of d.graph d.table) parse.parsed.repaired) ≡ accepted t)
  pub true_errors : AllByRecursion (IsTrueError d.grammar.grammar (automaton_of d.graph d.table) (token_by lex) (start_symbol d.grammar.grammar)) parse.parsed.places

-- what is handed out of a lexer's list: its first fault alone; or a value or none and the errors of a parse, of which P holds
pub data IsHanded {S L E V X : Type 0} (fault : E → X) (wrong : ParseError L S → X) (items : List (Result L E)) (P : Option V → List (ParseError L S) → Type 0) (value : Option V) (errors : List X) : Type 0 where
  faulty : (e : E) → IsFirstLexError items e → value ≡ None → errors ≡ fault e ∷ [] → IsHanded fault wrong items P value errors
  parsed : (es : List (ParseError L S)) → errors ≡ map wrong es → P value es → IsHanded fault wrong items P value errors

-- two kits parse alike: of the lexemes of one list, where at an error the same sequences are handed in, by its state, its index and its lexeme, they tell the same errors and give the same tree or none
abbrev pub ParseAlike : (S U L E : Type 0) → ParserValue → ParserValue → Type 0
ParseAlike S U L E d e =
    (number : S → ℕ) (other_number : U → ℕ) (lex : L → Lex) (faulty : ℕ → ℕ → ℕ → L) (lists : ℕ → ℕ → L → List (List Edit)) (items : List (Result L E))
    (tree other_tree : Option (Tree L)) (errors : List (ParseError L S)) (others : List (ParseError L U)) →
    IsKitParse number lex faulty d (λ state index lexeme offered. offered ≡ lists state index lexeme) items (λ t. t ≡ tree) errors →
    IsKitParse other_number lex faulty e (λ state index lexeme offered. offered ≡ lists state index lexeme) items (λ t. t ≡ other_tree) others →
    (map (told_of number) errors ≡ map (told_of other_number) others) × (tree ≡ other_tree)
