-- The tokens that may come next: what is shifted goes on with a beginning of a sentence.
use Rattle.std.proofs.Common.{◌≡◌, ◌≢◌, ℕ, List, [], ◌∷◌, ◌++◌, map, refl, sym, ap, ◌∙◌, subst}
use Rattle.std.proofs.lemmas.List.{append-nil}
use Rattle.cfg_theory.specs.Grammar.{Sym, Grammar, end_token, HasStart}
use Rattle.cfg_theory.specs.Derivation.{AllProductive, IsSentence, BeginsSentence}
use Rattle.cfg_theory.specs.Tree.{IsDerivation}
use Rattle.lr_theory.specs.Automaton.{Automaton, Safe}
use Rattle.lr_theory.specs.Machine.{Config}
use Rattle.lr_theory.specs.Stack.{Stands, IsGood, stack_yield}
use Rattle.lr_theory.specs.ViablePrefix.{HasPresent}
use Rattle.lr_theory.specs.Repair.{with_rest}
use Rattle.lr_theory.proofs.Sound.{run_is_good}
use Rattle.lr_theory.proofs.ViablePrefix.{stack_begins}
use Rattle.lr_theory.proofs.Fit.{sentence_of}
use Rattle.lr_theory.specs.NextTokens.{Shifts, Ends}

module _ (L : Type 0) (G : Grammar) (a : Automaton) (tok : L → ℕ) (x : Sym) (input : List L) (c : Config L) (safe : Safe G a) (has_start : HasStart G x) (stands : Stands G a tok input c) where
  pub sound : (y : L) → HasPresent G a → AllProductive G → tok y ≢ end_token G → Shifts G a tok c y → BeginsSentence G x (map tok (stack_yield c.trees ++ y ∷ []))
  sound y present productive other (n, d, e, none) =
      let all = stack_yield c.trees ++ y ∷ [] in
      let here : Stands G a tok all (with_rest c (y ∷ [])) = record { path = stands.path; are_trees = stands.are_trees; spells = refl; no_end = (other, tt) } in
      let good : Stands G a tok all d = subst (IsGood G a tok x all) e (run_is_good L G a tok safe x has_start all n (with_rest c (y ∷ [])) here) in
      let same : stack_yield d.trees ≡ all = sym (append-nil (stack_yield d.trees)) ∙ ap (λ l. stack_yield d.trees ++ l) (sym none) ∙ good.spells in
      subst (λ l. BeginsSentence G x (map tok l)) same (stack_begins L G a tok x all d has_start present productive good)

  pub sound_end : Ends G a tok c → IsSentence G x (map tok (stack_yield c.trees))
  sound_end (n, t, e) =
      let all = stack_yield c.trees ++ [] in
      let here : Stands G a tok all (with_rest c []) = record { path = stands.path; are_trees = stands.are_trees; spells = refl; no_end = tt } in
      let good : IsDerivation G tok x all t = subst (IsGood G a tok x all) e (run_is_good L G a tok safe x has_start all n (with_rest c []) here) in
      subst (λ l. IsSentence G x (map tok l)) (append-nil (stack_yield c.trees)) (sentence_of L G a tok x all t good)
