-- A parse under way: its stacks, and the errors told so far.
use Rattle.std.specs.Prelude.{◌≡◌, ◌≤◌, ◌++◌, ℕ, List, [], length, map, drop, Option, None, Some}
use Rattle.cfg_theory.specs.Grammar.{Grammar}
use Rattle.cfg_theory.specs.Tree.{Tree}
use Rattle.lr_theory.specs.Automaton.{Automaton}
use Rattle.lr_theory.specs.Machine.{Config, start_config}
use Rattle.lr_theory.specs.Repair.{Edit, with_rest, IsFirstTaken}
use Rattle.lr_theory.specs.HandedRepairs.{ComesTo}
use Rattle.state_table.specs.Graphs.{GraphValue}
use Rattle.state_table.specs.TableValues.{TableValue}
use Rattle.state_table.specs.Tables.{automaton_of}
use Rattle.parse_trees.specs.Lex.{Lex, token_by}
use Rattle.lrpar.specs.Parses.{ErrorValue, IsToldError, AllThree}
use Rattle.lrpar.specs.Run.{GoesOn, AreStacks, StartsByNext}
use Rattle.parse_trees.specs.Edits.{sequences_of}
use Rattle.lrpar.specs.declared.stacks.Stacks.{Stacks}
use Rattle.lrpar.specs.declared.parse.ErrorFound.{ErrorFound}
use Rattle.lrpar.specs.declared.parse.Mended.{Mended}

-- an error that was found, in numbers
abbrev pub error_of : {S L : Type 0} → (S → ℕ) → ErrorFound S L → ErrorValue L
error_of number e = record { state = number e.stidx.0; lexeme = e.lexeme; index = e.index; repairs = sequences_of number e.repairs.items }

abbrev pub errors_of : {S L : Type 0} → (S → ℕ) → List (ErrorFound S L) → List (ErrorValue L)
errors_of number es = map (error_of number) es

-- an error at d as it is told, with some sequences that were handed in
pub record IsFoundAt {L : Type 0} (G : Grammar) (a : Automaton) (tok : L → ℕ) (make : ℕ → List L → L) (answers : ℕ → ℕ → L → List (List Edit) → Type 0) (lexemes : List L) (d : Config L) (e : ErrorValue L) : Type 0 where
  pub offered : List (List Edit)
  pub told : IsToldError G a tok make answers lexemes d offered e

-- the first of the sequences that can be taken was applied: on the lexemes as repaired the machine goes on to a configuration that the stacks stand for
pub record IsMendedBy {S L V : Type 0} (number : S → ℕ) (lex : L → Lex) (G : Grammar) (g : GraphValue) (v : TableValue) (holds : V → List (Tree L) → Type 0) (make : ℕ → List L → L) (d : Config L) (offered : List (List Edit)) (s : Stacks S V) (rest : List L) : Type 0 where
  pub edits : List Edit
  pub first : IsFirstTaken G (automaton_of g v) (token_by lex) make d offered edits
  pub input : List L
  pub steps : ℕ
  pub goes : GoesOn number lex G g v holds input steps (with_rest d (first.takes.put ++ first.takes.left)) s rest

-- after an error the run goes on at an index, or none of the sequences can be taken
abbrev pub Resumes : {S L V : Type 0} → (S → ℕ) → (L → Lex) → Grammar → GraphValue → TableValue → (V → List (Tree L) → Type 0) → (ℕ → List L → L) → List L → Config L → List (List Edit) → List (List Edit) → Stacks S V → Option ℕ → Type 0
Resumes number lex G g v holds make lexemes d offered repairs s None = repairs ≡ []
Resumes number lex G g v holds make lexemes d offered repairs s (Some next) = IsMendedBy number lex G g v holds make d offered s (drop next lexemes)

-- what an error at d comes to
pub record ComesOf {S L V : Type 0} (number : S → ℕ) (lex : L → Lex) (G : Grammar) (g : GraphValue) (v : TableValue) (holds : V → List (Tree L) → Type 0) (make : ℕ → List L → L) (answers : ℕ → ℕ → L → List (List Edit) → Type 0) (lexemes : List L) (d : Config L) (s : Stacks S V) (m : Mended S L) : Type 0 where
  pub offered : List (List Edit)
  pub told : IsToldError G (automaton_of g v) (token_by lex) make answers lexemes d offered (error_of number m.found)
  pub resumes : Resumes number lex G g v holds make lexemes d offered (sequences_of number m.found.repairs.items) s m.next

-- where the run goes on, the stacks still are ones
abbrev pub StacksResume : {S L V : Type 0} → (S → ℕ) → (L → Lex) → TableValue → (ℕ → Type 0) → Stacks S V → List L → Option ℕ → Type 0
StacksResume number lex v starts s lexemes None = Unit {0}
StacksResume number lex v starts s lexemes (Some next) = (next ≤ length lexemes) × AreStacks number v s × StartsByNext lex starts lexemes next

-- the parse has come, over the errors that were told, to a configuration that the stacks stand for
pub record Underway {S L V : Type 0} (number : S → ℕ) (lex : L → Lex) (G : Grammar) (g : GraphValue) (v : TableValue) (holds : V → List (Tree L) → Type 0) (make : ℕ → List L → L) (answers : ℕ → ℕ → L → List (List Edit) → Type 0) (lexemes : List L) (errors : List (ErrorValue L)) (s : Stacks S V) (rest : List L) : Type 0 where
  pub handed : List (List (List Edit))
  pub places : List (Config L)
  pub last : Config L
  pub comes : ComesTo L G (automaton_of g v) (token_by lex) make (start_config (automaton_of g v) lexemes) handed places last
  pub told : AllThree (IsToldError G (automaton_of g v) (token_by lex) make answers lexemes) places handed errors
  pub input : List L
  pub steps : ℕ
  pub goes : GoesOn number lex G g v holds input steps last s rest
