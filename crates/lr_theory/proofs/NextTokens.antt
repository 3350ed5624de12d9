-- The tokens that may come next, exactly: on a complete machine, from the stack right after a shift.
use Rattle.std.proofs.Common.{◌≡◌, ◌≢◌, ℕ, zero, suc, ◌+◌, ◌<◌, ◌≤◌, ◌⊎◌, inl, inr, List, [], ◌∷◌, ◌++◌, length, map, Option, Some, None, refl, sym, ap, ◌∙◌, subst, arith, append_assoc}
use Rattle.std.proofs.lemmas.List.{append-nil, append_cancel_right}
use Rattle.std.specs.List.{AllByRecursion}
use Rattle.cfg_theory.specs.Grammar.{Sym, Grammar, end_token, HasStart, IsEnd}
use Rattle.cfg_theory.specs.Derivation.{AllProductive, IsSentence, BeginsSentence}
use Rattle.cfg_theory.specs.Tree.{Tree, leaf, Forest, root, IsTree, IsDerivation}
use Rattle.lr_theory.specs.Automaton.{Action, shift, reduce, accept, error, Automaton, Safe}
use Rattle.lr_theory.specs.Machine.{Config, Outcome, going, accepted, failed, stuck, next_or, after_goto, after_pop, after_accept, after_shift, act, step_on, step, then_run, run, start_config}
use Rattle.lr_theory.specs.Stack.{IsPath, Stands, IsGood, stack_yield}
use Rattle.lr_theory.specs.ViablePrefix.{HasPresent}
use Rattle.lr_theory.specs.ErrorPlaces.{IsReady}
use Rattle.lr_theory.specs.Chains.{Reductions, ChainsWithin}
use Rattle.lr_theory.specs.Repair.{with_rest}
use Rattle.lr_theory.proofs.Sound.{run_is_good}
use Rattle.lr_theory.proofs.Chains.{Ran, ran}
use Rattle.lr_theory.proofs.RunTermination.{run_append}
use Rattle.lr_theory.proofs.ErrorPlaces.{error_at_lexeme, no_sentence}
use Rattle.lr_theory.proofs.Fresh.{fresh_for}
use Rattle.lr_theory.specs.RunMeasure.{most_steps, one_more, steps_within}
use Rattle.lr_theory.specs.NextTokens.{Shifts, Ends, IsFresh, NextTokensAreSound, NextTokensAreExact}
use Rattle.lr_theory.proofs.RunMeasure.{bound}
use Rattle.lr_theory.proofs.NextSound.{sound, sound_end}

pub next_tokens_are_sound : (L : Type 0) → NextTokensAreSound L
next_tokens_are_sound L = record {
  sound = λ G a tok x input c y safe has_start present productive stands other h. sound L G a tok x input c safe has_start stands y present productive other h;
  sound_end = λ G a tok x input c safe has_start stands h. sound_end L G a tok x input c safe has_start stands h;
}

module _ (L : Type 0) (G : Grammar) (a : Automaton) (tok : L → ℕ) where
  -- a step that fails leaves the lexemes, one that accepts has accept in its cell
  abbrev Told : ℕ → List L → Outcome L → Type 0
  Told t xs (going c) = Unit {0}
  Told t xs (accepted u) = (s : ℕ) × (a.action s t ≡ accept)
  Told t xs (failed c) = c.rest ≡ xs
  Told t xs stuck = Unit {0}

  goto_told : (t : ℕ) (ys : List L) (o : Option ℕ) (ss : List ℕ) (ts : List (Tree L)) (xs : List L) → Told t ys (after_goto o ss ts xs)
  goto_told t ys None ss ts xs = tt
  goto_told t ys (Some q) ss ts xs = tt

  pop_told : (t p : ℕ) (ys : List L) (ss : List ℕ) (o : Option (Forest L × List (Tree L))) (xs : List L) → Told t ys (after_pop G a p ss o xs)
  pop_told t p ys [] o xs = tt
  pop_told t p ys (s ∷ ss) None xs = tt
  pop_told t p ys (s ∷ ss) (Some (f, ts)) xs = goto_told t ys _ _ _ xs

  shift_told : (t : ℕ) (ys : List L) (q : ℕ) (ss : List ℕ) (ts : List (Tree L)) (xs : List L) → Told t ys (after_shift q ss ts xs)
  shift_told t ys q ss ts [] = tt
  shift_told t ys q ss ts (x ∷ xs) = tt

  accept_told : (s t : ℕ) (ys : List L) (ts : List (Tree L)) → a.action s t ≡ accept → Told t ys (after_accept ts)
  accept_told s t ys [] e = tt
  accept_told s t ys (u ∷ []) e = (s, e)
  accept_told s t ys (u ∷ v ∷ ts) e = tt

  act_told : (k : Action) (s t : ℕ) (ss : List ℕ) (ts : List (Tree L)) (xs : List L) → a.action s t ≡ k → Told t xs (act G a k ss ts xs)
  act_told (shift q) s t ss ts xs e = shift_told t xs q ss ts xs
  act_told (reduce p) s t ss ts xs e = pop_told t p xs _ _ xs
  act_told accept s t ss ts xs e = accept_told s t xs ts e
  act_told error s t ss ts xs e = refl

  told : (ss : List ℕ) (ts : List (Tree L)) (xs : List L) → Told (next_or tok (end_token G) xs) xs (step_on G a tok ss ts xs)
  told [] ts xs = tt
  told (s ∷ ss) ts xs = act_told (a.action s (next_or tok (end_token G) xs)) s (next_or tok (end_token G) xs) (s ∷ ss) ts xs refl

  one : (c : Config L) (o : Outcome L) → step G a tok c ≡ o → run G a tok 1 c ≡ then_run o (run G a tok 0)
  one c o e = ap (λ o. then_run o (run G a tok 0)) e

  module _ (x : Sym) (ready : IsReady G a x) (all : List L) (no_end : AllByRecursion (λ z. tok z ≢ end_token G) all) (j : ℕ) (c : Config L) (from_start : run G a tok j (start_config a all) ≡ going c) where
    -- on a lexeme
    module _ (y : L) (begins : BeginsSentence G x (map tok all)) (here : c.rest ≡ y ∷ []) where
      abbrev Found : Type 0
      Found = (n : ℕ) × (d : Config L) × (run G a tok n c ≡ going d) × (d.rest ≡ [])

      abbrev Further : ℕ → ℕ → Type 0
      Further fuel i = (d : Config L) → run G a tok i c ≡ going d → d.rest ≡ y ∷ [] → Stands G a tok all d → steps_within G a tok fuel d < fuel → Found

      empty : (xs : List L) → length xs < 1 → xs ≡ []
      empty [] lt = refl
      empty (z ∷ zs) lt = absurd (omega (arith, lt))

      other_end : AllByRecursion (λ z. tok z ≢ end_token G) (y ∷ []) → tok y ≡ end_token G → ⊥
      other_end k h = k.0 h

      module _ (fuel i : ℕ) (e : Config L) (r : run G a tok i c ≡ going e) (rest : e.rest ≡ y ∷ []) (stands : Stands G a tok all e) (lt : steps_within G a tok (suc fuel) e < suc fuel) (further : Further fuel (i + 1)) where
        reached : (n : ℕ) → run G a tok ((j + i) + n) (start_config a all) ≡ run G a tok n e
        reached n = run_append L G a tok (j + i) n (start_config a all) e (run_append L G a tok j i (start_config a all) c from_start ∙ r)

        good : IsGood G a tok x all (run G a tok 1 e)
        good = run_is_good L G a tok ready.safe x ready.has_start all 1 e stands

        split : (d : Config L) → run G a tok (i + 1) c ≡ going d → Stands G a tok all d → steps_within G a tok fuel d < fuel → Ran L G a tok 1 e.states e.rest (going d) → Found
        split d on standing less (inl shorter) = (i + 1, d, on, empty d.rest (let l = ap length rest in omega (arith, shorter, l)))
        split d on standing less (inr same) = further d on (same.0 ∙ rest) standing less

        by : (o : Outcome L) → step G a tok e ≡ o → Found
        by (going d) f =
            let r1 : run G a tok 1 e ≡ going d = one e (going d) f in
            let on : run G a tok (i + 1) c ≡ going d = run_append L G a tok i 1 c e r ∙ r1 in
            let standing : Stands G a tok all d = subst (IsGood G a tok x all) r1 good in
            let count : steps_within G a tok (suc fuel) e ≡ suc (steps_within G a tok fuel d) = ap (λ o. one_more o (steps_within G a tok fuel)) f in
            let less : steps_within G a tok fuel d < fuel = omega (arith, count, lt) in
            split d on standing less (subst (Ran L G a tok 1 e.states e.rest) r1 (ran L G a tok 1 e))
        by (accepted t) f =
            let (s, k) = subst (Told (next_or tok (end_token G) e.rest) e.rest) f (told e.states e.trees e.rest) in
            let y_is : next_or tok (end_token G) e.rest ≡ tok y = ap (next_or tok (end_token G)) rest in
            let at_end : IsEnd G (tok y) = (ready.safe.accepts s (tok y) (subst (λ u. a.action s u ≡ accept) y_is k)).1 in
            absurd (other_end (subst (AllByRecursion (λ z. tok z ≢ end_token G)) rest stands.no_end) at_end)
        by (failed b) f =
            let r1 : run G a tok 1 e ≡ failed b = one e (failed b) f in
            let k : b.rest ≡ e.rest = subst (Told (next_or tok (end_token G) e.rest) e.rest) f (told e.states e.trees e.rest) in
            let standing : Stands G a tok all b = subst (IsGood G a tok x all) r1 good in
            let whole : stack_yield b.trees ++ y ∷ [] ≡ all = ap (λ l. stack_yield b.trees ++ l) (sym (k ∙ rest)) ∙ standing.spells in
            absurd (error_at_lexeme L G a tok x all ((j + i) + 1) b y [] ready no_end (reached 1 ∙ r1) (k ∙ rest) (subst (λ l. BeginsSentence G x (map tok l)) (sym whole) begins))
        by stuck f = absurd (subst (IsGood G a tok x all) (one e stuck f) good)

      seek : (fuel : ℕ) (i : ℕ) → Further fuel i
      seek zero i e r rest stands lt = absurd (omega (arith, lt))
      seek (suc fuel) i e r rest stands lt = by fuel i e r rest stands lt (λ d on same standing less. seek fuel (i + 1) d on same standing less) (step G a tok e) refl

    -- at the end
    module _ (sentence : IsSentence G x (map tok all)) where
      abbrev Ended : Type 0
      Ended = (n : ℕ) × (t : Tree L) × (run G a tok n c ≡ accepted t)

      abbrev FurtherOn : ℕ → ℕ → Type 0
      FurtherOn fuel i = (d : Config L) → run G a tok i c ≡ going d → d.rest ≡ [] → Stands G a tok all d → steps_within G a tok fuel d < fuel → Ended

      module _ (fuel i : ℕ) (e : Config L) (r : run G a tok i c ≡ going e) (rest : e.rest ≡ []) (stands : Stands G a tok all e) (lt : steps_within G a tok (suc fuel) e < suc fuel) (further : FurtherOn fuel (i + 1)) where
        end_reached : (n : ℕ) → run G a tok ((j + i) + n) (start_config a all) ≡ run G a tok n e
        end_reached n = run_append L G a tok (j + i) n (start_config a all) e (run_append L G a tok j i (start_config a all) c from_start ∙ r)

        end_good : IsGood G a tok x all (run G a tok 1 e)
        end_good = run_is_good L G a tok ready.safe x ready.has_start all 1 e stands

        end_split : (d : Config L) → run G a tok (i + 1) c ≡ going d → Stands G a tok all d → steps_within G a tok fuel d < fuel → Ran L G a tok 1 e.states e.rest (going d) → Ended
        end_split d on standing less (inl shorter) = absurd (let l = ap length rest in omega (arith, shorter, l))
        end_split d on standing less (inr same) = further d on (same.0 ∙ rest) standing less

        end_by : (o : Outcome L) → step G a tok e ≡ o → Ended
        end_by (going d) f =
            let r1 : run G a tok 1 e ≡ going d = one e (going d) f in
            let on : run G a tok (i + 1) c ≡ going d = run_append L G a tok i 1 c e r ∙ r1 in
            let standing : Stands G a tok all d = subst (IsGood G a tok x all) r1 end_good in
            let count : steps_within G a tok (suc fuel) e ≡ suc (steps_within G a tok fuel d) = ap (λ o. one_more o (steps_within G a tok fuel)) f in
            let less : steps_within G a tok fuel d < fuel = omega (arith, count, lt) in
            end_split d on standing less (subst (Ran L G a tok 1 e.states e.rest) r1 (ran L G a tok 1 e))
        end_by (accepted t) f = (i + 1, t, run_append L G a tok i 1 c e r ∙ one e (accepted t) f)
        end_by (failed b) f = absurd (no_sentence L G a tok x all ((j + i) + 1) b ready (end_reached 1 ∙ one e (failed b) f) sentence)
        end_by stuck f = absurd (subst (IsGood G a tok x all) (one e stuck f) end_good)

      seek_end : (fuel : ℕ) (i : ℕ) → FurtherOn fuel i
      seek_end zero i e r rest stands lt = absurd (omega (arith, lt))
      seek_end (suc fuel) i e r rest stands lt = end_by fuel i e r rest stands lt (λ d on same standing less. seek_end fuel (i + 1) d on same standing less) (step G a tok e) refl

  all_before : (P : L → Type 0) (xs ys : List L) → AllByRecursion P (xs ++ ys) → AllByRecursion P xs
  all_before P [] ys h = tt
  all_before P (z ∷ xs) ys h = (h.0, all_before P xs ys h.1)

  all_both : (P : L → Type 0) (xs ys : List L) → AllByRecursion P xs → AllByRecursion P ys → AllByRecursion P (xs ++ ys)
  all_both P [] ys h k = k
  all_both P (z ∷ xs) ys h k = (h.0, all_both P xs ys h.1 k)

  record Comes (c : Config L) (rest : List L) : Type 0 where
    steps : ℕ
    comes : run G a tok steps (start_config a (stack_yield c.trees ++ rest)) ≡ going (with_rest c rest)

  two_states : (states : List ℕ) (X : Sym) (w : List Sym) → IsPath a states (X ∷ w) → (q : ℕ) × (s : ℕ) × (ss : List ℕ) × (states ≡ q ∷ s ∷ ss)
  two_states [] X w p = absurd p
  two_states (q ∷ []) X w p = absurd p
  two_states (q ∷ s ∷ ss) X w p = (q, s, ss, refl)

  module _ (x : Sym) (ready : IsReady G a x) (present : HasPresent G a) (productive : AllProductive G) (input : List L) where
    fresh_config : (c : Config L) (rest : List L) → Stands G a tok input c → IsFresh a c → Comes c rest
    fresh_config c rest stands (inl (y, ts, e)) =
        let path : IsPath a c.states (map (root G tok) (leaf y ∷ ts)) = subst (λ l. IsPath a c.states (map (root G tok) l)) e stands.path in
        let (q, s, ss, f) = two_states c.states (root G tok (leaf y)) (map (root G tok) ts) path in
        let trees = subst (AllByRecursion (IsTree G tok)) e stands.are_trees in
        let h = fresh_for L G tok a x q s ss y ts rest ready present productive (subst (λ l. IsPath a l (map (root G tok) (leaf y ∷ ts))) f path) trees.1 in
        let same : stack_yield c.trees ++ rest ≡ stack_yield ts ++ y ∷ rest = ap (λ l. stack_yield l ++ rest) e ∙ append_assoc (stack_yield ts) (y ∷ []) rest in
        let to : going (record { states = q ∷ s ∷ ss; trees = leaf y ∷ ts; rest = rest }) ≡ going (with_rest c rest) = λ i. going (record { states = (sym f) i; trees = (sym e) i; rest = rest }) in
        record { steps = h.0; comes = ap (λ l. run G a tok h.0 (start_config a l)) same ∙ h.1 ∙ to }
    fresh_config c rest stands (inr (e, f)) =
        let empty : stack_yield c.trees ++ rest ≡ rest = ap (λ l. stack_yield l ++ rest) e in
        let here : start_config a (stack_yield c.trees ++ rest) ≡ with_rest c rest = λ i. record { states = (sym f) i; trees = (sym e) i; rest = empty i } in
        record { steps = 0; comes = ap going here }

    consumed : (c : Config L) → Stands G a tok input c → AllByRecursion (λ z. tok z ≢ end_token G) input → AllByRecursion (λ z. tok z ≢ end_token G) (stack_yield c.trees)
    consumed c stands no_end = all_before (λ z. tok z ≢ end_token G) (stack_yield c.trees) c.rest (subst (AllByRecursion (λ z. tok z ≢ end_token G)) (sym stands.spells) no_end)

    module _ (cap : ℕ) (chains : ChainsWithin G a cap) (no_end : AllByRecursion (λ z. tok z ≢ end_token G) input) (c : Config L) (stands : Stands G a tok input c) (fresh : IsFresh a c) where
      finds : (y : L) → tok y ≢ end_token G → BeginsSentence G x (map tok (stack_yield c.trees ++ y ∷ [])) → Shifts G a tok c y
      finds y other begins =
          let all = stack_yield c.trees ++ y ∷ [] in
          let b = with_rest c (y ∷ []) in
          let come = fresh_config c (y ∷ []) stands fresh in
          let here : Stands G a tok all b = record { path = stands.path; are_trees = stands.are_trees; spells = refl; no_end = (other, tt) } in
          let none = all_both (λ z. tok z ≢ end_token G) (stack_yield c.trees) (y ∷ []) (consumed c stands no_end) (other, tt) in
          seek x ready all none come.steps b come.comes y begins refl (most_steps cap 1 (length c.states)) 0 b refl refl here
          (bound L G a tok x cap all ready.safe ready.has_start chains 1 (length c.states) b (omega arith) (omega arith) here)

      ends : IsSentence G x (map tok (stack_yield c.trees)) → Ends G a tok c
      ends sentence =
          let all = stack_yield c.trees ++ [] in
          let b = with_rest c [] in
          let come = fresh_config c [] stands fresh in
          let here : Stands G a tok all b = record { path = stands.path; are_trees = stands.are_trees; spells = refl; no_end = tt } in
          let none = all_both (λ z. tok z ≢ end_token G) (stack_yield c.trees) [] (consumed c stands no_end) tt in
          let is : IsSentence G x (map tok all) = subst (λ l. IsSentence G x (map tok l)) (sym (append-nil (stack_yield c.trees))) sentence in
          seek_end x ready all none come.steps b come.comes is (most_steps cap 0 (length c.states)) 0 b refl refl here
          (bound L G a tok x cap all ready.safe ready.has_start chains 0 (length c.states) b (omega arith) (omega arith) here)

pub next_tokens_are_exact : (L : Type 0) → NextTokensAreExact L
next_tokens_are_exact L = record {
  exact = λ G a tok x cap input c y ready chains present productive no_end stands fresh other. (
    λ h. sound L G a tok x input c ready.safe ready.has_start stands y present productive other h,
    λ h. finds L G a tok x ready present productive input cap chains no_end c stands fresh y other h,
  );
  exact_end = λ G a tok x cap input c ready chains present productive no_end stands fresh. (
    λ h. sound_end L G a tok x input c ready.safe ready.has_start stands h,
    λ h. ends L G a tok x ready present productive input cap chains no_end c stands fresh h,
  );
}
