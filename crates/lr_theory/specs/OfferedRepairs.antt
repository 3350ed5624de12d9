-- Which of the offered sequences can be taken at an error, and when a parse with repairs has a value.
use Rattle.std.specs.Prelude.{◌≡◌, ℕ, ◌↔◌, List, [], ◌∷◌, Option, IsSome}
use Rattle.std.specs.List.{AllByRecursion}
use Rattle.cfg_theory.specs.Grammar.{Grammar}
use Rattle.cfg_theory.specs.Tree.{Tree}
use Rattle.lr_theory.specs.Automaton.{Automaton}
use Rattle.lr_theory.specs.Machine.{Config}
use Rattle.lr_theory.specs.Repair.{Edit, Takes, IsFirstTaken, Parses}

-- those of a list that are P, in its order
pub data Filtered {X : Type 0} (P : X → Type 0) : List X → List X → Type 0 where
  none : Filtered P [] []
  kept : {x : X} {xs ys : List X} → P x → Filtered P xs ys → Filtered P (x ∷ xs) (x ∷ ys)
  dropped : {x : X} {xs ys : List X} → (P x → ⊥) → Filtered P xs ys → Filtered P (x ∷ xs) ys

-- the repairs of an error: the offered sequences that can be taken there, in the order offered
abbrev pub AreRepairs : {L : Type 0} → Grammar → Automaton → (L → ℕ) → (ℕ → List L → L) → Config L → List (List Edit) → List (List Edit) → Type 0
AreRepairs G a tok make d = Filtered (Takes G a tok make d)

pub record RepairsAreOffered (L : Type 0) : Type 0 where
  -- they are determined
  pub unique : (G : Grammar) (a : Automaton) (tok : L → ℕ) (make : ℕ → List L → L) (d : Config L) (offered repairs others : List (List Edit)) →
      AreRepairs G a tok make d offered repairs → AreRepairs G a tok make d offered others → repairs ≡ others
  -- the first of them is the first sequence that can be taken
  pub first : (G : Grammar) (a : Automaton) (tok : L → ℕ) (make : ℕ → List L → L) (d : Config L) (offered more : List (List Edit)) (es : List Edit) →
      AreRepairs G a tok make d offered (es ∷ more) → IsFirstTaken G a tok make d offered es
  pub is_first : (G : Grammar) (a : Automaton) (tok : L → ℕ) (make : ℕ → List L → L) (d : Config L) (offered repairs : List (List Edit)) (es : List Edit) →
      AreRepairs G a tok make d offered repairs → IsFirstTaken G a tok make d offered es → (more : List (List Edit)) × (repairs ≡ es ∷ more)
  -- and there is none exactly where each is refused
  pub none : (G : Grammar) (a : Automaton) (tok : L → ℕ) (make : ℕ → List L → L) (d : Config L) (offered : List (List Edit)) →
      AreRepairs G a tok make d offered [] ↔ AllByRecursion (λ es. Takes G a tok make d es → ⊥) offered

-- some offered sequence can be taken at the error
abbrev pub HasRepair : {L : Type 0} → Grammar → Automaton → (L → ℕ) → (ℕ → List L → L) → (Config L → List (List Edit)) → Config L → Type 0
HasRepair G a tok make offers d = (es : List Edit) × IsFirstTaken G a tok make d (offers d) es

-- a value comes exactly where each error has a repair
pub record ValuesComeByRepairs (L : Type 0) : Type 0 where
  pub comes : (G : Grammar) (a : Automaton) (tok : L → ℕ) (make : ℕ → List L → L) (offers : Config L → List (List Edit)) (c : Config L) (r : Option (Tree L))
      (errors : List (Config L)) (lexemes : List L) → Parses L G a tok make offers c r errors lexemes →
      IsSome r ↔ AllByRecursion (HasRepair G a tok make offers) errors
