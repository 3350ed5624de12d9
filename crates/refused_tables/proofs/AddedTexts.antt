-- Texts of examples, a piece at a time.
use Rattle.std.proofs.Common.{◌≡◌, ℕ, List, [], ◌∷◌, ◌++◌, length, Option, Result, is_ok, OnOk, Ok, Err, if◌then◌else◌, append_assoc, sym, ap, ◌∙◌, subst, refl, codes, arith}
use Rattle.std.proofs.lemmas.List.{append-nil}
use Rattle.cfg_base.specs.declared.symbol.PIdx.{PIdx}
use Rattle.cfg_base.specs.declared.symbol.Symbol.{Symbol}
use Rattle.cfg_numbered.specs.Symbols.{syms_of}
use Rattle.cfg_numbered.specs.Value.{GrammarValue}
use Rattle.conflict_examples.specs.declared.examples.ActionExample.{ActionExample}
use Rattle.conflict_examples.specs.declared.examples.ConflictExample.{ConflictExample}
use Rattle.grammar_names.specs.Names.{spaced, symbols_text, token_text}
use Rattle.refused_tables.specs.ExampleTexts.{AddsAction, first_text, rest_text, spine_text}

-- a text that was continued twice
pub twice : (o a b n₁ n₂ : List ℕ) → n₁ ≡ o ++ a → n₂ ≡ n₁ ++ b → n₂ ≡ o ++ (a ++ b)
twice o a b n₁ n₂ e₁ e₂ = e₂ ∙ ap (λ (l : List ℕ). l ++ b) e₁ ∙ append_assoc o a b

pub added_if : {T E : Type 0} (r : Result T E) (n o a : List ℕ) → n ≡ (if is_ok r then o ++ a else o) → OnOk r (n ≡ o ++ a)
added_if (Ok x) n o a e = e
added_if (Err x) n o a e = tt

-- what an action is, and then the action
pub adds_action : (v : GrammarValue) (what : List ℕ) (a : ActionExample ℕ) (old mid new : List ℕ) → mid ≡ old ++ what → AddsAction v ([]) a mid new → AddsAction v what a old new
adds_action v what a old mid new e (forms, h) = (forms, h ∙ ap (λ (l : List ℕ). l ++ codes "\n" ++ spine_text v (codes "    ") a.spine.items ++ forms) (append-nil mid ∙ e))

-- the first action, of a pair or of a shift
pub first_action : (v : GrammarValue) (x : ConflictExample ℕ) (p : ℕ) (o o' : Option (PIdx ℕ)) (s m m' : List ℕ) → o ≡ o' → m ≡ m' → AddsAction v (first_text v x p o') x.first s m' → AddsAction v (first_text v x p o) x.first s m
first_action v x p o o' s m m' other text h =
    subst (λ (n : List ℕ). AddsAction v (first_text v x p o) x.first s n) (sym text) (subst (λ (q : Option (PIdx ℕ)). AddsAction v (first_text v x p q) x.first s m') (sym other) h)

pub rest_none : (v : GrammarValue) (t : ℕ) (Xs : List (Symbol ℕ)) → length Xs ≡ 0 → rest_text v t (syms_of (λ n. n) Xs) ≡ spaced (token_text v t)
rest_none v t [] e = refl
rest_none v t (X ∷ Xs) e = absurd (omega (arith, e))

pub rest_some : (v : GrammarValue) (t : ℕ) (Xs : List (Symbol ℕ)) → (length Xs ≡ 0 → ⊥) → rest_text v t (syms_of (λ n. n) Xs) ≡ symbols_text v (syms_of (λ n. n) Xs)
rest_some v t [] e = absurd (e refl)
rest_some v t (X ∷ Xs) e = refl
