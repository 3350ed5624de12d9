-- Parses with repairs, by the lists of sequences that were handed in at their errors.
use Rattle.std.specs.Prelude.{◌≡◌, ℕ, List, [], ◌∷◌, ◌++◌, map, length, Option, Some, None}
use Rattle.std.specs.List.{AllByRecursion}
use Rattle.cfg_theory.specs.Grammar.{Grammar}
use Rattle.cfg_theory.specs.Tree.{Tree}
use Rattle.lr_theory.specs.Automaton.{Automaton}
use Rattle.lr_theory.specs.Machine.{Config, accepted, failed, run}
use Rattle.lr_theory.specs.Stack.{stack_yield}
use Rattle.lr_theory.specs.Repair.{Edit, with_rest, Takes, IsFirstTaken, Parses}

-- as `Parses`, with the lists of sequences that were handed in at the errors, in their order
pub data ParsesWith (L : Type 0) (G : Grammar) (a : Automaton) (tok : L → ℕ) (make : ℕ → List L → L) : Config L → List (List (List Edit)) → Option (Tree L) → List (Config L) → List L → Type 0 where
  accepts : {c : Config L} {handed : List (List (List Edit))} {r : Option (Tree L)} {errors : List (Config L)} {lexemes : List L} (n : ℕ) (t : Tree L) →
      run G a tok n c ≡ accepted t → handed ≡ [] → r ≡ Some t → errors ≡ [] → lexemes ≡ stack_yield c.trees ++ c.rest →
      ParsesWith L G a tok make c handed r errors lexemes
  gives_up : {c : Config L} {handed : List (List (List Edit))} {r : Option (Tree L)} {errors : List (Config L)} {lexemes : List L} (n : ℕ) (d : Config L)
      (offered : List (List Edit)) → run G a tok n c ≡ failed d → AllByRecursion (λ e. Takes G a tok make d e → ⊥) offered → handed ≡ offered ∷ [] → r ≡ None →
      errors ≡ d ∷ [] → lexemes ≡ stack_yield d.trees ++ d.rest → ParsesWith L G a tok make c handed r errors lexemes
  repairs : {c : Config L} {handed : List (List (List Edit))} {r : Option (Tree L)} {errors : List (Config L)} {lexemes : List L} (n : ℕ) (d : Config L)
      (offered : List (List Edit)) (es : List Edit) (further : List (List (List Edit))) (more : List (Config L)) → run G a tok n c ≡ failed d →
      (first : IsFirstTaken G a tok make d offered es) → handed ≡ offered ∷ further → errors ≡ d ∷ more →
      ParsesWith L G a tok make (with_rest d (first.takes.put ++ first.takes.left)) further r more lexemes →
      ParsesWith L G a tok make c handed r errors lexemes

-- such a parse is one by a function of the errors, since errors stand further and further on
pub record HandedIsOffered (L : Type 0) : Type 0 where
  pub by_function : (G : Grammar) (a : Automaton) (tok : L → ℕ) (make : ℕ → List L → L) (c : Config L) (handed : List (List (List Edit))) (r : Option (Tree L))
      (errors : List (Config L)) (lexemes : List L) → ParsesWith L G a tok make c handed r errors lexemes →
      (offers : Config L → List (List Edit)) × (map offers errors ≡ handed) × Parses L G a tok make offers c r errors lexemes
  pub of_function : (G : Grammar) (a : Automaton) (tok : L → ℕ) (make : ℕ → List L → L) (offers : Config L → List (List Edit)) (c : Config L) (r : Option (Tree L))
      (errors : List (Config L)) (lexemes : List L) → Parses L G a tok make offers c r errors lexemes →
      ParsesWith L G a tok make c (map offers errors) r errors lexemes

-- from c the parse has come, over these errors with these lists handed in, to the configuration d
pub data ComesTo (L : Type 0) (G : Grammar) (a : Automaton) (tok : L → ℕ) (make : ℕ → List L → L) : Config L → List (List (List Edit)) → List (Config L) → Config L → Type 0 where
  here : {c : Config L} → ComesTo L G a tok make c [] [] c
  past : {c d : Config L} {handed : List (List (List Edit))} {errors : List (Config L)} (n : ℕ) (e : Config L) (offered : List (List Edit)) (es : List Edit) →
      ComesTo L G a tok make c handed errors d → run G a tok n d ≡ failed e → (first : IsFirstTaken G a tok make e offered es) →
      ComesTo L G a tok make c (handed ++ offered ∷ []) (errors ++ e ∷ []) (with_rest e (first.takes.put ++ first.takes.left))

-- what goes on from there goes on from c
pub record ParsesGoOn (L : Type 0) : Type 0 where
  pub on : (G : Grammar) (a : Automaton) (tok : L → ℕ) (make : ℕ → List L → L) (c d : Config L) (handed further : List (List (List Edit)))
      (errors more : List (Config L)) (r : Option (Tree L)) (lexemes : List L) → ComesTo L G a tok make c handed errors d →
      ParsesWith L G a tok make d further r more lexemes → ParsesWith L G a tok make c (handed ++ further) r (errors ++ more) lexemes
