-- Applying a sequence of repairs to the stacks of a run.
use Rattle.std.specs.Prelude.{◌≡◌, ◌<◌, ℕ, List, ◌++◌, length, Some}
use Rattle.cfg_theory.specs.Grammar.{Grammar}
use Rattle.cfg_theory.specs.Tree.{Tree}
use Rattle.lr_theory.specs.Machine.{Config, going, failed, run}
use Rattle.lr_theory.specs.Stack.{stack_yield}
use Rattle.lr_theory.specs.Repair.{Edit, apply, with_rest, Takes}
use Rattle.state_table.specs.Graphs.{GraphValue}
use Rattle.state_table.specs.TableValues.{TableValue}
use Rattle.state_table.specs.Tables.{automaton_of}
use Rattle.parse_trees.specs.Lex.{Lex, token_by}
use Rattle.lrpar.specs.Run.{StandFor, GoesOn}
use Rattle.lrpar.specs.declared.stacks.Stacks.{Stacks}

-- a run that fails has fewer lexemes left than these
abbrev pub FailsPast : {L : Type 0} → (L → Lex) → Grammar → GraphValue → TableValue → Config L → List L → Type 0
FailsPast {L} lex G g v c left = (m : ℕ) (e : Config L) → run G (automaton_of g v) (token_by lex) m c ≡ failed e → length e.rest < length left

-- the stacks stand for a configuration before what the edits put of these lexemes and what they leave, and from there a run gets past them
pub record OnWay {S L V : Type 0} (number : S → ℕ) (lex : L → Lex) (G : Grammar) (g : GraphValue) (v : TableValue) (holds : V → List (Tree L) → Type 0) (make : ℕ → List L → L) (input : List L) (c : Config L) (s : Stacks S V) (lexemes : List L) (es : List Edit) (left : List L) : Type 0 where
  pub stand : StandFor number lex G g v holds input s c
  pub put : List L
  pub applied : apply make es lexemes ≡ Some (put, left)
  pub rest_is : c.rest ≡ put ++ left
  pub past : FailsPast lex G g v c left

-- the machine goes on to such a configuration
abbrev pub GoesOnWay : {S L V : Type 0} → (S → ℕ) → (L → Lex) → Grammar → GraphValue → TableValue → (V → List (Tree L) → Type 0) → (ℕ → List L → L) → List L → Config L → Stacks S V → List L → List Edit → List L → Type 0
GoesOnWay {L = L} number lex G g v holds make input d s lexemes es left = (n : ℕ) × (c : Config L) × (run G (automaton_of g v) (token_by lex) n d ≡ going c) × OnWay number lex G g v holds make input c s lexemes es left

-- a sequence that can be taken at d was applied: these lexemes are left, and the machine goes on to where the stacks stand before them
pub record IsApplied {S L V : Type 0} (number : S → ℕ) (lex : L → Lex) (G : Grammar) (g : GraphValue) (v : TableValue) (holds : V → List (Tree L) → Type 0) (make : ℕ → List L → L) (d : Config L) (es : List Edit) (k : Takes G (automaton_of g v) (token_by lex) make d es) (s : Stacks S V) (lexemes : List L) : Type 0 where
  pub left_is : k.left ≡ lexemes
  pub steps : ℕ
  pub goes : GoesOn number lex G g v holds (stack_yield d.trees ++ (k.put ++ k.left)) steps (with_rest d (k.put ++ k.left)) s k.left
  -- and a run from there that fails gets past the next lexeme
  pub past : FailsPast lex G g v goes.config k.left
