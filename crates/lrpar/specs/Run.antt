-- A run on stacks of values, in terms of the machine on stacks of trees.
use Rattle.std.specs.Prelude.{◌≡◌, ◌<◌, ◌≤◌, ℕ, List, [], ◌∷◌, length, drop, Option, Some, None}
use Rattle.cfg_theory.specs.Grammar.{Grammar, end_token}
use Rattle.cfg_theory.specs.Tree.{Tree}
use Rattle.lr_theory.specs.Machine.{Config, going, accepted, failed, run}
use Rattle.lr_theory.specs.Stack.{Stands}
use Rattle.state_table.specs.Graphs.{GraphValue}
use Rattle.state_table.specs.TableValues.{TableValue}
use Rattle.parse_trees.specs.Lex.{Lex, token_by}
use Rattle.lrpar.specs.Made.{next_start, end_of}
use Rattle.state_table.specs.Tables.{automaton_of}
use Rattle.lrpar.specs.Reducing.{states_of, stack_of, AreStates}
use Rattle.lrpar.specs.declared.stacks.Stacks.{Stacks}
use Rattle.lrpar.specs.declared.run.Turn.{Turn}
use Rattle.lrpar.specs.declared.run.Turn.TheVariants as turns
use Rattle.lrpar.specs.declared.run.Advance.{Advance}
use Rattle.lrpar.specs.declared.run.Advance.TheVariants as advances
use Rattle.lrpar.specs.declared.run.Ending.{Ending}
use Rattle.lrpar.specs.declared.run.Ending.TheVariants as endings
use Rattle.lr_theory.specs.Automaton.{Automaton}
use Rattle.lr_theory.specs.Chains.{reduction}

-- nothing on the stack starts after the next lexeme, or past the last one after the end of all
abbrev pub StartsByNext : {L : Type 0} → (L → Lex) → (ℕ → Type 0) → List L → ℕ → Type 0
StartsByNext lex starts lexemes place = starts (next_start lex (end_of lex lexemes) (drop place lexemes))

-- the stacks stand for a configuration of the machine, which stands on the input
pub record StandFor {S L V : Type 0} (number : S → ℕ) (lex : L → Lex) (G : Grammar) (g : GraphValue) (v : TableValue) (holds : V → List (Tree L) → Type 0) (input : List L) (s : Stacks S V) (d : Config L) : Type 0 where
  pub states : d.states ≡ stack_of number s.states.items
  pub stands : Stands G (automaton_of g v) (token_by lex) input d
  pub held : holds s.values d.trees

-- what is so of the stacks alone
pub record AreStacks {S V : Type 0} (number : S → ℕ) (v : TableValue) (s : Stacks S V) : Type 0 where
  pub are_states : AreStates v (states_of number s.states.items)
  pub some : 0 < length s.states.items

-- the machine goes on to a configuration that the stacks stand for
pub record GoesOn {S L V : Type 0} (number : S → ℕ) (lex : L → Lex) (G : Grammar) (g : GraphValue) (v : TableValue) (holds : V → List (Tree L) → Type 0) (input : List L) (steps : ℕ) (d : Config L) (s : Stacks S V) (rest : List L) : Type 0 where
  pub config : Config L
  pub goes : run G (automaton_of g v) (token_by lex) steps d ≡ going config
  pub stand : StandFor number lex G g v holds input s config
  pub rest_is : config.rest ≡ rest

-- it accepts a tree that the one entry stands for
pub record AcceptsBy {L V : Type 0} (lex : L → Lex) (G : Grammar) (g : GraphValue) (v : TableValue) (holds : V → List (Tree L) → Type 0) (steps : ℕ) (d : Config L) (values : V) : Type 0 where
  pub tree : Tree L
  pub accepts : run G (automaton_of g v) (token_by lex) steps d ≡ accepted tree
  pub held : holds values (tree ∷ [])

-- it fails at a configuration that the stacks stand for
pub record FailsOn {S L V : Type 0} (number : S → ℕ) (lex : L → Lex) (G : Grammar) (g : GraphValue) (v : TableValue) (holds : V → List (Tree L) → Type 0) (input : List L) (steps : ℕ) (d : Config L) (s : Stacks S V) (rest : List L) : Type 0 where
  pub config : Config L
  pub fails : run G (automaton_of g v) (token_by lex) steps d ≡ failed config
  pub stand : StandFor number lex G g v holds input s config
  pub rest_is : config.rest ≡ rest

-- the token of the next lexeme, or `e` where there is none
abbrev pub token_of : {L : Type 0} → (L → ℕ) → ℕ → Option L → ℕ
token_of tok e None = e
token_of tok e (Some x) = tok x

-- the next lexeme is the first of these, or there is none of an empty list
abbrev pub NextOf : {L : Type 0} → Option L → List L → Type 0
NextOf None xs = xs ≡ []
NextOf (Some x) xs = xs ≡ x ∷ drop 1 xs

-- the next lexeme is of a token of the grammar other than the end
abbrev pub NextInside : {L : Type 0} → Grammar → (L → Lex) → Option L → Type 0
NextInside G lex None = Unit {0}
NextInside G lex (Some x) = (lex x).token < end_token G

-- nothing on the stack starts after it; `starts n` says that nothing starts after n
abbrev pub StartsBefore : {L : Type 0} → (L → Lex) → (ℕ → Type 0) → Option L → Type 0
StartsBefore lex starts None = Unit {0}
StartsBefore lex starts (Some x) = starts (lex x).places.start

-- no later start came on the stack
abbrev pub StartsKept : (ℕ → Type 0) → (ℕ → Type 0) → Type 0
StartsKept starts starts' = (place : ℕ) → starts place → starts' place

-- the next lexeme was shifted, and nothing on the stack starts after it
abbrev pub StartsShifted : {L : Type 0} → (L → Lex) → (ℕ → Type 0) → Option L → Type 0
StartsShifted lex starts None = ⊥
StartsShifted lex starts (Some x) = starts (lex x).places.start

-- how a turn that begins at d ends
abbrev pub Turned : {S L V : Type 0} → (S → ℕ) → (L → Lex) → Grammar → GraphValue → TableValue → (V → List (Tree L) → Type 0) → List L → Config L → Stacks S V → Option L → Turn → Type 0
Turned number lex G g v holds input d s next turns.Reduced = GoesOn number lex G g v holds input 1 d s d.rest
Turned number lex G g v holds input d s next turns.Shifted = GoesOn number lex G g v holds input 1 d s (drop 1 d.rest)
Turned number lex G g v holds input d s next turns.Accepted = (next ≡ None) × AcceptsBy lex G g v holds 1 d s.values
Turned number lex G g v holds input d s next turns.Failed = (run G (automaton_of g v) (token_by lex) 1 d ≡ failed d) × StandFor number lex G g v holds input s d

-- after a turn that goes on, or fails, the stacks still are ones
abbrev pub StacksAfter : {S V : Type 0} → (S → ℕ) → TableValue → Stacks S V → Turn → Type 0
StacksAfter number v s turns.Reduced = AreStacks number v s
StacksAfter number v s turns.Shifted = AreStacks number v s
StacksAfter number v s turns.Accepted = Unit {0}
StacksAfter number v s turns.Failed = AreStacks number v s

abbrev pub StartsAfter : {L : Type 0} → (L → Lex) → (ℕ → Type 0) → (ℕ → Type 0) → Option L → Turn → Type 0
StartsAfter lex starts starts' next turns.Reduced = StartsKept starts starts'
StartsAfter lex starts starts' next turns.Shifted = StartsShifted lex starts' next
StartsAfter lex starts starts' next turns.Accepted = Unit {0}
StartsAfter lex starts starts' next turns.Failed = StartsKept starts starts'

-- a turn that reduces is a reduction of the states on this token
abbrev pub TurnReduces : Grammar → Automaton → ℕ → List ℕ → List ℕ → Turn → Type 0
TurnReduces G a t ss ss' turns.Reduced = reduction G a t ss ≡ Some ss'
TurnReduces G a t ss ss' turns.Shifted = Unit {0}
TurnReduces G a t ss ss' turns.Accepted = Unit {0}
TurnReduces G a t ss ss' turns.Failed = Unit {0}

-- how the turns up to the next shift end
abbrev pub Advanced : {S L V : Type 0} → (S → ℕ) → (L → Lex) → Grammar → GraphValue → TableValue → (V → List (Tree L) → Type 0) → List L → Config L → Stacks S V → Option L → Advance → Type 0
Advanced number lex G g v holds input d s next advances.Shifted = (steps : ℕ) × GoesOn number lex G g v holds input steps d s (drop 1 d.rest)
Advanced number lex G g v holds input d s next advances.Accepted = (next ≡ None) × ((steps : ℕ) × AcceptsBy lex G g v holds steps d s.values)
Advanced number lex G g v holds input d s next advances.Failed = (steps : ℕ) × FailsOn number lex G g v holds input steps d s d.rest

abbrev pub StacksAdvanced : {S L V : Type 0} → (S → ℕ) → (L → Lex) → TableValue → (ℕ → Type 0) → (ℕ → Type 0) → Stacks S V → Option L → Advance → Type 0
StacksAdvanced number lex v starts starts' s next advances.Shifted = AreStacks number v s × StartsShifted lex starts' next
StacksAdvanced number lex v starts starts' s next advances.Accepted = Unit {0}
StacksAdvanced number lex v starts starts' s next advances.Failed = AreStacks number v s × StartsKept starts starts'

-- how a run from d ends; it may fail at a lexeme from `place` on, or past the last one
abbrev pub Ended : {S L V : Type 0} → (S → ℕ) → (L → Lex) → Grammar → GraphValue → TableValue → (V → List (Tree L) → Type 0) → List L → Config L → Stacks S V → List L → Ending → Type 0
Ended number lex G g v holds input d s lexemes endings.Accepted = (steps : ℕ) × AcceptsBy lex G g v holds steps d s.values
Ended number lex G g v holds input d s lexemes (endings.Failed place) = (place ≤ length lexemes) × ((steps : ℕ) × FailsOn number lex G g v holds input steps d s (drop place lexemes))

abbrev pub StacksEnded : {S L V : Type 0} → (S → ℕ) → (L → Lex) → TableValue → (ℕ → Type 0) → Stacks S V → List L → Ending → Type 0
StacksEnded number lex v starts s lexemes endings.Accepted = Unit {0}
StacksEnded number lex v starts s lexemes (endings.Failed place) = AreStacks number v s × StartsByNext lex starts lexemes place
