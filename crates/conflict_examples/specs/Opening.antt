-- What the check of a candidate has found: open productions, and steps from what follows them.
use Rattle.std.specs.Prelude.{◌≡◌, ℕ, List, [], ◌∷◌, ◌++◌, Bool, true, false, reverse}
use Rattle.cfg_base.specs.declared.symbol.PIdx.{PIdx}
use Rattle.cfg_base.specs.declared.symbol.SIdx.{SIdx}
use Rattle.cfg_theory.specs.Grammar.{Sym, rule, token, Grammar}
use Rattle.lr_theory.specs.Canonical.{Act}
use Rattle.cfg_numbered.specs.Symbols.{syms_of, numbers_of}
use Rattle.conflict_examples.specs.Spines.{Item, IsSpine, before_dots, around, AreSteps, Begins, ShowsAct}
use Rattle.conflict_examples.specs.ExampleViews.{spine_of, shown_of}
use Rattle.conflict_examples.specs.declared.derivation.Derivation.{Derivation}
use Rattle.conflict_examples.specs.declared.spine.Spine.{Spine}
use Rattle.conflict_examples.specs.declared.witness.Witness.{Witness}

-- the list is a spine, with the string before its dots and the list behind its innermost production
pub record IsOpened (G : Grammar) (spine : List Item) (w others : List Sym) : Type 0 where
  pub is_spine : IsSpine G spine
  pub string : before_dots G spine ≡ w
  pub rest : around G spine ≡ others

-- of what is behind, the last symbol comes first
abbrev pub IsOpen : {S : Type 0} → (S → ℕ) → Grammar → Spine S → Type 0
IsOpen number G o = IsOpened G (spine_of number o.items.items) (reverse (syms_of number o.symbols.items)) (reverse (syms_of number o.rest.items))

-- the last one of a list, the innermost of its productions
pub record IsInnermost {S : Type 0} (x : PIdx S × SIdx S) (items : List (PIdx S × SIdx S)) : Type 0 where
  pub outer : List (PIdx S × SIdx S)
  pub is : items ≡ outer ++ x ∷ []

-- productions from the list to one that begins with the token
pub record AreStepsTo (G : Grammar) (t : ℕ) (a : List Sym) (steps : List ℕ) : Type 0 where
  pub last : List Sym
  pub steps_are : AreSteps G a steps last
  pub begins : Begins G t last

-- the list has come by the steps to the form that is there
abbrev pub ComeBy : {S : Type 0} → (S → ℕ) → Grammar → List Sym → Derivation S → Type 0
ComeBy number G a d = AreSteps G a (numbers_of number d.steps.items) (reverse (syms_of number d.form.items))

-- a rule stands first
abbrev pub has_rule_first : List Sym → Bool
has_rule_first [] = false
has_rule_first (rule A ∷ a) = true
has_rule_first (token t ∷ a) = false

-- the witness shows the action on the token after its symbols
abbrev pub WitnessShows : {S : Type 0} → (S → ℕ) → Grammar → ℕ → Act → Witness S → Type 0
WitnessShows number G t a x = ShowsAct G (reverse (syms_of number x.symbols.items)) t (shown_of number x.action) a
