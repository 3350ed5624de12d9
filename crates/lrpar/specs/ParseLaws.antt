-- What holds of all parses.
use Rattle.std.specs.Prelude.{◌≡◌, ◌≢◌, ℕ, List, [], ◌∷◌, ◌++◌, Option}
use Rattle.std.specs.List.{AllByRecursion}
use Rattle.cfg_theory.specs.Grammar.{Grammar, WellFormed, end_token}
use Rattle.cfg_theory.specs.Derivation.{AllProductive}
use Rattle.cfg_theory.specs.Fold.{Span, by_functions}
use Rattle.cfg_theory.specs.Tree.{Tree, leaf}
use Rattle.lr_theory.specs.Automaton.{Automaton, Safe, Closed, Complete}
use Rattle.lr_theory.specs.Machine.{Config, going, run, start_config}
use Rattle.lr_theory.specs.Stack.{stack_yield}
use Rattle.lr_theory.specs.Repair.{Edit, Takes, with_rest}
use Rattle.lr_theory.specs.HandedRepairs.{ParsesWith}
use Rattle.lr_theory.specs.StackAfterRepair.{IsFirstWith}
use Rattle.lr_theory.specs.ViablePrefix.{HasPresent}
use Rattle.lrpar.specs.Parses.{ErrorValue, AllThree, IsToldError, HasValue, IsParsed}

-- whatever repair is taken at d: right when the lexeme behind it is shifted, the stack is that of a run from the start on the lexemes as repaired
abbrev pub IsFreshAfter : {L : Type 0} → Grammar → Automaton → (L → ℕ) → (ℕ → List L → L) → Config L → Type 0
IsFreshAfter {L} G a tok make d = (es : List Edit) → (k : Takes G a tok make d es) → (y : L) (ys : List L) → k.left ≡ y ∷ ys →
    (c : Config L) × IsFirstWith G a tok ys (with_rest d (k.put ++ k.left)) c × ((ts : List (Tree L)) × (c.trees ≡ leaf y ∷ ts)) ×
    ((n : ℕ) × (run G a tok n (start_config a (stack_yield d.trees ++ (k.put ++ k.left))) ≡ going c))

-- where each action stands in its cell and each rule derives some text, this is so at each error of a parse
pub record RepairedStacksAreFresh (L : Type 0) : Type 0 where
  pub fresh : (G : Grammar) (a : Automaton) (tok : L → ℕ) (make : ℕ → List L → L) (lexemes : List L) (handed : List (List (List Edit))) (tree : Option (Tree L)) (places : List (Config L)) (repaired : List L) →
      WellFormed G → Safe G a → Closed G a → Complete G a → HasPresent G a → AllProductive G → AllByRecursion (λ y. tok y ≢ end_token G) lexemes →
      ParsesWith L G a tok make (start_config a lexemes) handed tree places repaired → AllByRecursion (IsFreshAfter G a tok make) places

-- whatever was asked of what was handed in, and of the tree
abbrev pub AnyAnswers : {L : Type 0} → ℕ → ℕ → L → List (List Edit) → Type 0
AnyAnswers state index lexeme offered = Unit {0}

abbrev pub AnyTree : {L : Type 0} → Option (Tree L) → Type 0
AnyTree tree = Unit {0}

-- a parse with no word of these
module _ {L : Type 0} (G : Grammar) (a : Automaton) (tok : L → ℕ) (make : ℕ → List L → L) (answers : ℕ → ℕ → L → List (List Edit) → Type 0) (lexemes : List L) where
  abbrev pub bare_told : (places : List (Config L)) (handed : List (List (List Edit))) (errors : List (ErrorValue L)) → AllThree (IsToldError G a tok make answers lexemes) places handed errors → AllThree (IsToldError G a tok make AnyAnswers lexemes) places handed errors
  bare_told [] [] [] h = tt
  bare_told [] [] (z ∷ errors) h = h
  bare_told [] (o ∷ handed) errors h = h
  bare_told (d ∷ places) [] errors h = h
  bare_told (d ∷ places) (o ∷ handed) [] h = h
  bare_told (d ∷ places) (o ∷ handed) (z ∷ errors) h = (
    record { state = h.0.state; lexeme = h.0.lexeme; within = h.0.within; index = h.0.index; handed_in = tt; are_repairs = h.0.are_repairs },
    bare_told places handed errors h.1,
  )

  abbrev pub bare : (gives : Option (Tree L) → Type 0) (errors : List (ErrorValue L)) → IsParsed G a tok make answers gives lexemes errors → IsParsed G a tok make AnyAnswers AnyTree lexemes errors
  bare gives errors p = record { handed = p.handed; places = p.places; tree = p.tree; repaired = p.repaired; parses = p.parses; told = bare_told p.places p.handed errors p.told; gives_tree = tt }

-- a parse has one answer
pub record ParsesAreOne (L V : Type 0) : Type 0 where
  -- where the same lists are handed in, the errors as they are told, the tree or none, and the lexemes as repaired are the same
  pub one_answer : (G : Grammar) (a : Automaton) (tok : L → ℕ) (make : ℕ → List L → L) (lexemes : List L) (errors others : List (ErrorValue L)) →
      (p : IsParsed G a tok make AnyAnswers AnyTree lexemes errors) → (q : IsParsed G a tok make AnyAnswers AnyTree lexemes others) → p.handed ≡ q.handed →
      (errors ≡ others) × (p.tree ≡ q.tree) × (p.places ≡ q.places) × (p.repaired ≡ q.repaired)
  -- and functions that answer by their arguments alone give one value
  pub one_value : (G : Grammar) (at : L → Span) (term : L → V) (says : ℕ → ℕ → Span → List V → V) (tree : Option (Tree L)) (value other : Option V) →
      HasValue G (by_functions term says) at value tree → HasValue G (by_functions term says) at other tree → value ≡ other
