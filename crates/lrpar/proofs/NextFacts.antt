-- What the tokens that may come next are in the grammar.
use Rattle.std.proofs.Common.{◌≡◌, ◌≢◌, ℕ, zero, suc, ◌<◌, ◌↔◌, Bool, List, [], ◌∷◌, ◌++◌, length, map, Some, refl, sym, ap, ◌∙◌, subst, arith, append_assoc}
use Rattle.std.specs.Prelude.{slice_get}
use Rattle.std.specs.List.{AllByRecursion}
use Rattle.std.proofs.lemmas.List.{append-nil, map-append}
use Rattle.cfg_theory.specs.Grammar.{end_token, start_symbol, Sym, Grammar, HasStart, WellFormed}
use Rattle.cfg_theory.specs.Derivation.{AllProductive, IsSentence, BeginsSentence}
use Rattle.lr_theory.specs.Automaton.{Automaton, Safe}
use Rattle.lr_theory.specs.Chains.{ChainsWithin}
use Rattle.lr_theory.specs.ErrorPlaces.{IsReady}
use Rattle.lr_theory.specs.Machine.{Config, failed, run, start_config}
use Rattle.lr_theory.specs.Stack.{Stands, IsGood, stack_yield}
use Rattle.lr_theory.specs.ViablePrefix.{HasPresent}
use Rattle.lr_theory.proofs.ErrorPlaces.{errors_are_first}
use Rattle.lr_theory.proofs.NextTokens.{next_tokens_are_sound, next_tokens_are_exact}
use Rattle.lr_theory.proofs.ViablePrefix.{is_prefix_correct}
use Rattle.lr_theory.proofs.Sound.{run_is_good, start_stands}
use Rattle.lrpar.specs.NextStates.{AreInside}
use Rattle.lrpar.specs.NextTokens.{Reaches, HasError, IsSet, AreNext}
use Rattle.lrpar.proofs.SentenceTokens.{begins_inside}
use Rattle.lrpar.proofs.NextRuns.{stands_there}

-- none of lexemes of the grammar's tokens is of the end token
pub no_end_of : {L : Type 0} (G : Grammar) (tok : L → ℕ) (lexemes : List L) → AreInside G tok lexemes → AllByRecursion (λ z. tok z ≢ end_token G) lexemes
no_end_of G tok [] inside = tt
no_end_of G tok (y ∷ lexemes) inside = (λ e. let lt = inside 0 y refl in omega (arith, lt, e), no_end_of G tok lexemes (λ k z e. inside (suc k) z e))

map_at : {L : Type 0} (tok : L → ℕ) (lexemes : List L) (k : ℕ) (y : L) → slice_get lexemes k ≡ Some y → slice_get (map tok lexemes) k ≡ Some (tok y)
map_at tok [] k y e = cc
map_at tok (z ∷ lexemes) zero y e = let same : z ≡ y = cc in ap (λ u. Some (tok u)) same
map_at tok (z ∷ lexemes) (suc k) y e = map_at tok lexemes k y e

module _ (L : Type 0) (G : Grammar) (a : Automaton) (tok : L → ℕ) (x : Sym) (safe : Safe G a) (start : HasStart G x) (lexemes : List L) (no_end : AllByRecursion (λ z. tok z ≢ end_token G) lexemes) where
  begins_on : (ts zs : List L) (z : L) → ts ++ z ∷ zs ≡ lexemes → BeginsSentence G x (map tok lexemes) → BeginsSentence G x (map tok (ts ++ z ∷ []))
  begins_on ts zs z e b =
      let split : map tok lexemes ++ b.0 ≡ map tok (ts ++ z ∷ []) ++ (map tok zs ++ b.0) =
      ap (λ l. map tok l ++ b.0) (sym e ∙ sym (append_assoc ts (z ∷ []) zs)) ∙ ap (λ l. l ++ b.0) (map-append tok (ts ++ z ∷ []) zs) ∙ append_assoc (map tok (ts ++ z ∷ [])) (map tok zs) b.0 in
      (map tok zs ++ b.0, subst (IsSentence G x) split b.1)

  -- where the run fails before a lexeme, they begin no sentence
  pub fails_before : (n : ℕ) (d : Config L) (rest : List L) → IsReady G a x → run G a tok n (start_config a lexemes) ≡ failed d → d.rest ≡ rest → 0 < length rest → BeginsSentence G x (map tok lexemes) → ⊥
  fails_before n d [] ready f e lt b = omega (arith, lt)
  fails_before n d (z ∷ zs) ready f e lt b =
      let stands : Stands G a tok lexemes d = subst (IsGood G a tok x lexemes) f (run_is_good L G a tok safe x start lexemes n (start_config a lexemes) (start_stands L G a tok safe x start lexemes no_end)) in
      let whole : stack_yield d.trees ++ z ∷ zs ≡ lexemes = ap (λ l. stack_yield d.trees ++ l) (sym e) ∙ stands.spells in
      (errors_are_first L).at_lexeme G a tok x lexemes n d z zs ready no_end f e (begins_on (stack_yield d.trees) zs z whole b)

  module _ (c : Config L) (r : Reaches G a tok lexemes [] c) (bits : List Bool) (next : AreNext G a tok c bits) where
    stands : Stands G a tok lexemes c
    stands = stands_there L G a tok x safe start lexemes no_end [] c r

    consumed : stack_yield c.trees ≡ lexemes
    consumed = sym (append-nil (stack_yield c.trees)) ∙ ap (λ l. stack_yield c.trees ++ l) (sym r.rest_is) ∙ stands.spells

    ended : map tok (stack_yield c.trees) ≡ map tok lexemes
    ended = ap (map tok) consumed

    -- where it comes over all, they begin one
    pub begin_one : HasPresent G a → AllProductive G → BeginsSentence G x (map tok lexemes)
    begin_one present productive = subst (BeginsSentence G x) ended ((is_prefix_correct L).consumed_begins G a tok x lexemes r.steps c safe start present productive no_end r.goes)

    module _ (y : L) (t : ℕ) (is : tok y ≡ t) (lt : t < end_token G) where
      with_one : map tok (stack_yield c.trees ++ y ∷ []) ≡ map tok lexemes ++ t ∷ []
      with_one = ap (λ l. map tok (l ++ y ∷ [])) consumed ∙ map-append tok lexemes (y ∷ []) ∙ ap (λ u. map tok lexemes ++ u ∷ []) is

      other : tok y ≢ end_token G
      other e = omega (arith, lt, is, e)

      pub sound_on : HasPresent G a → AllProductive G → IsSet bits t → BeginsSentence G x (map tok lexemes ++ t ∷ [])
      sound_on present productive set =
          let shifts = (next.shifts y (omega (arith, lt, is))).0 (subst (IsSet bits) (sym is) set) in
          subst (BeginsSentence G x) with_one ((next_tokens_are_sound L).sound G a tok x lexemes c y safe start present productive stands other shifts)

      pub exact_on : (cap : ℕ) → IsReady G a x → ChainsWithin G a cap → HasPresent G a → AllProductive G → IsSet bits t ↔ BeginsSentence G x (map tok lexemes ++ t ∷ [])
      exact_on cap ready chains present productive =
          let law = (next_tokens_are_exact L).exact G a tok x cap lexemes c y ready chains present productive no_end stands r.fresh other in
          let told = next.shifts y (omega (arith, lt, is)) in
          (λ set. subst (BeginsSentence G x) with_one (law.0 (told.0 (subst (IsSet bits) (sym is) set))), λ b. subst (IsSet bits) is (told.1 (law.1 (subst (BeginsSentence G x) (sym with_one) b))))

    pub sound_end_on : IsSet bits (end_token G) → IsSentence G x (map tok lexemes)
    sound_end_on set = subst (IsSentence G x) ended ((next_tokens_are_sound L).sound_end G a tok x lexemes c safe start stands (next.ends.0 set))

    pub exact_end_on : (cap : ℕ) → IsReady G a x → ChainsWithin G a cap → HasPresent G a → AllProductive G → IsSet bits (end_token G) ↔ IsSentence G x (map tok lexemes)
    exact_end_on cap ready chains present productive =
        let law = (next_tokens_are_exact L).exact_end G a tok x cap lexemes c ready chains present productive no_end stands r.fresh in
        (λ set. subst (IsSentence G x) ended (law.0 (next.ends.0 set)), λ b. next.ends.1 (law.1 (subst (IsSentence G x) (sym ended) b)))

module _ (L : Type 0) (G : Grammar) (a : Automaton) (tok : L → ℕ) (good : WellFormed G) (lexemes : List L) where
  inside : BeginsSentence G (start_symbol G) (map tok lexemes) → AreInside G tok lexemes
  inside b = λ k y e. begins_inside G good (map tok lexemes) k (tok y) b (map_at tok lexemes k y e)

  -- lexemes with an error begin no sentence
  pub begin_none : IsReady G a (start_symbol G) → HasError G a tok lexemes → BeginsSentence G (start_symbol G) (map tok lexemes) → ⊥
  begin_none ready (HasError.outside k y e le) b = let lt = inside b k y e in omega (arith, lt, le)
  begin_none ready (HasError.fails n c f left) b = fails_before L G a tok (start_symbol G) ready.safe ready.has_start lexemes (no_end_of G tok lexemes (inside b)) n c c.rest ready f refl left b
