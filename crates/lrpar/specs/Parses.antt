-- What a parse with repairs of some lexemes comes to.
use Rattle.std.specs.Prelude.{◌≡◌, ◌<◌, ◌≤◌, ◌+◌, ◌↔◌, ℕ, Bool, true, false, List, [], ◌∷◌, ◌++◌, length, map, drop, get_or, Option, None, Some, IsSome}
use Rattle.std.specs.List.{AllByRecursion, AllZip}
use Rattle.cfg_theory.specs.Grammar.{Grammar, start_symbol}
use Rattle.cfg_theory.specs.Derivation.{AllProductive, IsSentence, BeginsSentence}
use Rattle.cfg_theory.specs.Tree.{Tree, IsDerivation, nodes}
use Rattle.cfg_theory.specs.Fold.{Span, no_span, Answers, Folds}
use Rattle.lr_theory.specs.Automaton.{Automaton, Closed, Complete}
use Rattle.lr_theory.specs.Machine.{Config, going, accepted, run, start_config}
use Rattle.lr_theory.specs.Stack.{stack_yield}
use Rattle.lr_theory.specs.Repair.{Edit, Takes, Advances, IsTrueError}
use Rattle.lr_theory.specs.HandedRepairs.{ParsesWith}
use Rattle.lr_theory.specs.OfferedRepairs.{AreRepairs}
use Rattle.lr_theory.specs.ViablePrefix.{HasPresent}
use Rattle.lrpar.specs.Made.{next_lexeme}

-- an error as it is told: the state on top, the next lexeme or the one made up past the last, its index, and the sequences that can be taken
pub record ErrorValue (L : Type 0) : Type 0 where
  pub state : ℕ
  pub lexeme : L
  pub index : ℕ
  pub repairs : List (List Edit)

-- what is told of an error at d where these sequences were handed in: `answers` says what may be, by the state, the index and the lexeme
pub record IsToldError {L : Type 0} (G : Grammar) (a : Automaton) (tok : L → ℕ) (make : ℕ → List L → L) (answers : ℕ → ℕ → L → List (List Edit) → Type 0) (lexemes : List L) (d : Config L) (offered : List (List Edit)) (e : ErrorValue L) : Type 0 where
  pub state : e.state ≡ get_or d.states 0 0
  pub lexeme : e.lexeme ≡ next_lexeme G make d.rest
  pub within : e.index ≤ length lexemes
  pub index : d.rest ≡ drop e.index lexemes
  pub handed_in : answers e.state e.index e.lexeme offered
  pub are_repairs : AreRepairs G a tok make d offered e.repairs

-- P holds of the items of three lists, place by place
abbrev pub AllThree : {A B C : Type 0} → (A → B → C → Type 0) → List A → List B → List C → Type 0
AllThree P [] [] [] = Unit {0}
AllThree P [] [] (z ∷ zs) = ⊥
AllThree P [] (y ∷ ys) zs = ⊥
AllThree P (x ∷ xs) [] zs = ⊥
AllThree P (x ∷ xs) (y ∷ ys) [] = ⊥
AllThree P (x ∷ xs) (y ∷ ys) (z ∷ zs) = P x y z × AllThree P xs ys zs

-- no value where there is no tree, and else one that it folds to
abbrev pub HasValue : {L V : Type 0} → Grammar → Answers L V → (L → Span) → Option V → Option (Tree L) → Type 0
HasValue G by at None None = Unit {0}
HasValue G by at (Some v) None = ⊥
HasValue G by at None (Some t) = ⊥
HasValue G by at (Some v) (Some t) = Folds G by at no_span t v

-- the same of a stack of values: whether it was told that there is a value, which then is all that stands on it
abbrev pub HoldsValue : {L : Type 0} → (List (Tree L) → Type 0) → Bool → Option (Tree L) → Type 0
HoldsValue stands false None = Unit {0}
HoldsValue stands true None = ⊥
HoldsValue stands false (Some t) = ⊥
HoldsValue stands true (Some t) = stands (t ∷ [])

-- the lexemes' parse with what was handed in at its errors gives a tree or none as is said by `gives`, and these errors are told
pub record IsParsed {L : Type 0} (G : Grammar) (a : Automaton) (tok : L → ℕ) (make : ℕ → List L → L) (answers : ℕ → ℕ → L → List (List Edit) → Type 0) (gives : Option (Tree L) → Type 0) (lexemes : List L) (errors : List (ErrorValue L)) : Type 0 where
  pub handed : List (List (List Edit))
  pub places : List (Config L)
  pub tree : Option (Tree L)
  pub repaired : List L
  pub parses : ParsesWith L G a tok make (start_config a lexemes) handed tree places repaired
  pub told : AllThree (IsToldError G a tok make answers lexemes) places handed errors
  pub gives_tree : gives tree

-- each error but the first is told of a later lexeme than the one before
abbrev pub IndicesAscend : {L : Type 0} → List (ErrorValue L) → Type 0
IndicesAscend [] = Unit {0}
IndicesAscend (e ∷ []) = Unit {0}
IndicesAscend (e ∷ f ∷ es) = (e.index < f.index) × IndicesAscend (f ∷ es)

-- a listed sequence is taken; what was consumed, it and the next lexeme begin a sentence, or are one where nothing is left
pub record FitsAt {L : Type 0} (G : Grammar) (a : Automaton) (tok : L → ℕ) (make : ℕ → List L → L) (d : Config L) (es : List Edit) : Type 0 where
  pub takes : Takes G a tok make d es
  pub begins : (y : L) (ys : List L) → takes.left ≡ y ∷ ys → BeginsSentence G (start_symbol G) (map tok (stack_yield d.trees ++ (takes.put ++ y ∷ [])))
  pub is_sentence : takes.left ≡ [] → IsSentence G (start_symbol G) (map tok (stack_yield d.trees ++ takes.put))

-- no error, and this tree, in a step a lexeme, a step a node and one more
pub record IsFlawless {L : Type 0} (G : Grammar) (a : Automaton) (tok : L → ℕ) (lexemes : List L) (t : Tree L) (tree : Option (Tree L)) (errors : List (ErrorValue L)) : Type 0 where
  pub no_errors : errors ≡ []
  pub is_tree : tree ≡ Some t
  pub last : Config L
  pub goes : run G a tok (length lexemes + nodes t) (start_config a lexemes) ≡ going last
  pub accepts : run G a tok (length lexemes + nodes t + 1) (start_config a lexemes) ≡ accepted t

-- and what a reader of the value and of the errors wants to know
pub record IsParse {L : Type 0} (G : Grammar) (a : Automaton) (tok : L → ℕ) (make : ℕ → List L → L) (answers : ℕ → ℕ → L → List (List Edit) → Type 0) (gives : Option (Tree L) → Type 0) (lexemes : List L) (errors : List (ErrorValue L)) : Type 0 where
  pub parsed : IsParsed G a tok make answers gives lexemes errors
  -- the tree is a derivation of the lexemes as repaired
  pub derives : (t : Tree L) → parsed.tree ≡ Some t → IsDerivation G tok (start_symbol G) parsed.repaired t
  -- there is one exactly where each error lists a repair
  pub by_repairs : IsSome parsed.tree ↔ AllByRecursion (λ e. 0 < length e.repairs) errors
  -- n lexemes give at most n + 1 errors, each later one further on
  pub few : length errors ≤ length lexemes + 1
  pub advance : Advances parsed.places
  pub further : IndicesAscend errors
  -- where each rule derives some text, each listed sequence fits
  pub fits : HasPresent G a → AllProductive G → AllZip (λ d e. AllByRecursion (FitsAt G a tok make d) e.repairs) parsed.places errors
  -- a complete machine gives each derivation of the lexemes, with no error
  pub flawless : Closed G a → Complete G a → (t : Tree L) → IsDerivation G tok (start_symbol G) lexemes t → IsFlawless G a tok lexemes t parsed.tree errors
  -- and repairs leave no trace: the tree is that of a run with no repairs on the lexemes as repaired, and each error is that of such a run
  pub same_value : Closed G a → Complete G a → (t : Tree L) → parsed.tree ≡ Some t → (n : ℕ) × (run G a tok n (start_config a parsed.repaired) ≡ accepted t)
  pub true_errors : Closed G a → Complete G a → HasPresent G a → AllProductive G → AllByRecursion (IsTrueError G a tok (start_symbol G)) parsed.places
