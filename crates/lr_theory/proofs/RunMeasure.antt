-- Reductions by what they leave, and a number that each step of a run lessens.
use Rattle.std.proofs.Common.{◌≡◌, ℕ, zero, suc, ◌+◌, ◌-◌, ◌*◌, ◌<◌, ◌≤◌, ◌⊎◌, inl, inr, ⊎_elim, List, [], ◌∷◌, length, drop, Option, Some, None, refl, sym, ap, ◌∙◌, subst, arith}
use Rattle.std.proofs.lemmas.Bool.{cases_lt}
use Rattle.std.proofs.lemmas.List.{length-drop}
use Rattle.std.proofs.Math.Nat.{mul-le-mul_right}
use Rattle.cfg_theory.specs.Grammar.{end_token, Sym, Grammar, HasStart, head_of, body_of}
use Rattle.cfg_theory.specs.Tree.{Tree, Forest, node, none}
use Rattle.lr_theory.specs.Automaton.{Action, shift, reduce, accept, error, Automaton, Safe}
use Rattle.lr_theory.specs.Machine.{Config, Outcome, going, accepted, failed, stuck, next_or, pop, after_goto, after_pop, after_accept, after_shift, act, step_on, step, then_run, run}
use Rattle.lr_theory.specs.Stack.{IsPath, Stands, IsGood}
use Rattle.lr_theory.specs.Chains.{reduction, Reductions, ReducesTo, ReductionsByResult, ChainsWithin}
use Rattle.lr_theory.proofs.Sound.{run_is_good}
use Rattle.lr_theory.proofs.Chains.{Ran, ran, reductions_bounded}
use Rattle.lr_theory.proofs.RunTermination.{going_same}
use Rattle.lr_theory.specs.RunMeasure.{most_steps, one_more, steps_within, steps_left, RunsShorten}

grow : (h cap : ℕ) → h + h * (cap + 1) ≡ h * (cap + 2)
grow h cap = omega arith

pred_same : (r r' : ℕ) → suc r ≡ suc r' → r ≡ r'
pred_same r r' e = omega (arith, e)

module _ (G : Grammar) (a : Automaton) (t : ℕ) where
  some_list : (x y : List ℕ) → Some x ≡ Some y → x ≡ y
  some_list x y e = cc

  none_some : (x : List ℕ) → None ≡ Some x → ⊥
  none_some x e = cc

  -- one more in front
  in_front : {k : ℕ} {ss ss' ss'' : List ℕ} → reduction G a t ss ≡ Some ss' → ReducesTo G a t k ss' ss'' → ReducesTo G a t (suc k) ss ss''
  in_front e ReducesTo.none = ReducesTo.then ReducesTo.none e
  in_front e (ReducesTo.then r f) = ReducesTo.then (in_front e r) f

  rest_of : {k : ℕ} {ss s1 ss' : List ℕ} → ReducesTo G a t (suc k) ss ss' → reduction G a t ss ≡ Some s1 → ReducesTo G a t k s1 ss'
  rest_of {k = zero} {s1 = s1} (ReducesTo.then {ss'' = u} ReducesTo.none g) f = subst (λ z. ReducesTo G a t 0 s1 z) (some_list s1 u (sym f ∙ g)) ReducesTo.none
  rest_of {k = suc k} (ReducesTo.then r g) f = ReducesTo.then (rest_of r f) g

  first_of : {k : ℕ} {ss ss' : List ℕ} → ReducesTo G a t (suc k) ss ss' → (s1 : List ℕ) × (reduction G a t ss ≡ Some s1)
  first_of {k = zero} (ReducesTo.then {ss'' = u} ReducesTo.none g) = (u, g)
  first_of {k = suc k} (ReducesTo.then r g) = first_of r

  to_result : (k : ℕ) (ss : List ℕ) → Reductions G a t k ss → (ss' : List ℕ) × ReducesTo G a t k ss ss'
  to_result zero ss h = (ss, ReducesTo.none)
  to_result (suc k) ss (ss', e, h) = let (ss'', r) = to_result k ss' h in (ss'', in_front e r)

  of_result : (k : ℕ) (ss ss' : List ℕ) → ReducesTo G a t k ss ss' → Reductions G a t k ss
  of_result zero ss ss' r = tt
  of_result (suc k) ss ss' r = let (s1, e) = first_of r in (s1, e, of_result k s1 ss' (rest_of r e))

  ends_here : {ss ss' : List ℕ} → ReducesTo G a t 0 ss ss' → ss ≡ ss'
  ends_here ReducesTo.none = refl

  past : (k n : ℕ) (ss ss' : List ℕ) → ReducesTo G a t k ss ss' → reduction G a t ss' ≡ None → k < n → Reductions G a t n ss → ⊥
  past k zero ss ss' r e lt h = omega arith
  past zero (suc n) ss ss' r e lt (s1, f, h) = none_some s1 (sym e ∙ ap (reduction G a t) (sym (ends_here r)) ∙ f)
  past (suc k) (suc n) ss ss' r e lt (s1, f, h) = past k n s1 ss' (rest_of r f) e (omega arith) h

pub reductions_by_result : ReductionsByResult
reductions_by_result = record {
  count = λ G a t k ss. (to_result G a t k ss, λ (ss', r). of_result G a t k ss ss' r);
  past_last = past;
}

module _ (L : Type 0) (G : Grammar) (a : Automaton) (tok : L → ℕ) where
  abbrev pub left : ℕ → Config L → ℕ
  left n c = steps_within G a tok n c

  -- a count that ends before its limit is the whole count
  stable_by : (n m : ℕ) → ((d : Config L) → left n d < n → left (n + m) d ≡ left n d) → (o : Outcome L) → one_more o (left n) < suc n → one_more o (left (n + m)) ≡ one_more o (left n)
  stable_by n m ih (going d) lt = ap suc (ih d (omega (arith, lt)))
  stable_by n m ih (accepted t) lt = refl
  stable_by n m ih (failed d) lt = refl
  stable_by n m ih stuck lt = refl

  stable : (n m : ℕ) (c : Config L) → left n c < n → left (n + m) c ≡ left n c
  stable zero m c lt = absurd (omega (arith, lt))
  stable (suc n) m c lt = let e : suc n + m ≡ suc (n + m) = omega arith in ap (λ k. left k c) e ∙ stable_by n m (λ d l. stable n m d l) (step G a tok c) lt

  same_count : (n m : ℕ) (c : Config L) → left n c < n → left m c < m → left n c ≡ left m c
  same_count n m c x y =
      ⊎_elim
      (λ lt. let e : n + (m - n) ≡ m = omega arith in sym (stable n (m - n) c x) ∙ ap (λ k. left k c) e)
      (λ le. let e : m + (n - m) ≡ n = omega arith in sym (ap (λ k. left k c) e) ∙ stable m (n - m) c y)
      (cases_lt n m)

  -- a run's steps are counted
  then_counts : (n m : ℕ) → ((c d : Config L) → run G a tok n c ≡ going d → left (n + m) c ≡ n + left m d) → (o : Outcome L) (d : Config L) → then_run o (run G a tok n) ≡ going d → one_more o (left (n + m)) ≡ suc n + left m d
  then_counts n m ih (going c) d h = let e = ih c d h in omega (arith, e)
  then_counts n m ih (accepted t) d h = cc
  then_counts n m ih (failed c) d h = cc
  then_counts n m ih stuck d h = cc

  counts : (n m : ℕ) (c d : Config L) → run G a tok n c ≡ going d → left (n + m) c ≡ n + left m d
  counts zero m c d h =
      let e : 0 + m ≡ m = omega arith in
      let f : left m c ≡ left m d = ap (λ x. left m x) (going_same L G a tok c d h) in
      let g : left (0 + m) c ≡ left m c = ap (λ k. left k c) e in
      omega (arith, f, g)
  counts (suc n) m c d h = let e : suc n + m ≡ suc (n + m) = omega arith in ap (λ k. left k c) e ∙ then_counts n m (λ x y u. counts n m x y u) (step G a tok c) d h

  abbrev IsOver : Outcome L → Type 0
  IsOver o = (d : Config L) → o ≡ going d → ⊥

  over_by : (n k : ℕ) → ((c : Config L) → IsOver (run G a tok n c) → left (n + k) c ≤ n) → (o : Outcome L) → IsOver (then_run o (run G a tok n)) → one_more o (left (n + k)) ≤ suc n
  over_by n k ih (going c) h = let le = ih c h in omega (arith, le)
  over_by n k ih (accepted t) h = omega arith
  over_by n k ih (failed c) h = omega arith
  over_by n k ih stuck h = omega arith

  over : (n k : ℕ) (c : Config L) → IsOver (run G a tok n c) → left (n + k) c ≤ n
  over zero k c h = absurd (h c refl)
  over (suc n) k c h = let e : suc n + k ≡ suc (n + k) = omega arith in subst (λ j. left j c ≤ suc n) (sym e) (over_by n k (λ x u. over n k x u) (step G a tok c) h)

  -- a step adds one state at most
  abbrev Higher : ℕ → Outcome L → Type 0
  Higher h (going c) = length c.states ≤ h + 1
  Higher h (accepted t) = Unit {0}
  Higher h (failed c) = Unit {0}
  Higher h stuck = Unit {0}

  shift_higher : (q : ℕ) (ss : List ℕ) (ts : List (Tree L)) (xs : List L) → Higher (length ss) (after_shift q ss ts xs)
  shift_higher q ss ts [] = tt
  shift_higher q ss ts (x ∷ xs) = omega arith

  goto_higher : (h : ℕ) (o : Option ℕ) (ss : List ℕ) (ts : List (Tree L)) (xs : List L) → length ss ≤ h → Higher h (after_goto o ss ts xs)
  goto_higher h None ss ts xs le = tt
  goto_higher h (Some q) ss ts xs le = omega (arith, le)

  pop_higher : (h p : ℕ) (ss : List ℕ) (o : Option (Forest L × List (Tree L))) (xs : List L) → length ss ≤ h → Higher h (after_pop G a p ss o xs)
  pop_higher h p [] o xs le = tt
  pop_higher h p (s ∷ ss) None xs le = tt
  pop_higher h p (s ∷ ss) (Some (f, ts)) xs le = goto_higher h (a.goto s (head_of G p)) (s ∷ ss) (node p f ∷ ts) xs le

  accept_higher : (h : ℕ) (ts : List (Tree L)) → Higher h (after_accept ts)
  accept_higher h [] = tt
  accept_higher h (t ∷ []) = tt
  accept_higher h (t ∷ u ∷ ts) = tt

  act_higher : (k : Action) (ss : List ℕ) (ts : List (Tree L)) (xs : List L) → Higher (length ss) (act G a k ss ts xs)
  act_higher (shift q) ss ts xs = shift_higher q ss ts xs
  act_higher (reduce p) ss ts xs =
      let e = length-drop (length (body_of G p)) ss in
      pop_higher (length ss) p (drop (length (body_of G p)) ss) (pop (length (body_of G p)) ts none) xs (omega (arith, e))
  act_higher accept ss ts xs = accept_higher (length ss) ts
  act_higher error ss ts xs = tt

  step_higher : (ss : List ℕ) (ts : List (Tree L)) (xs : List L) → Higher (length ss) (step_on G a tok ss ts xs)
  step_higher [] ts xs = tt
  step_higher (s ∷ ss) ts xs = act_higher (a.action s (next_or tok (end_token G) xs)) (s ∷ ss) ts xs

  then_higher : (n h : ℕ) → ((c d : Config L) → run G a tok n c ≡ going d → length d.states ≤ length c.states + n) → (o : Outcome L) (d : Config L) → Higher h o → then_run o (run G a tok n) ≡ going d → length d.states ≤ h + suc n
  then_higher n h ih (going c) d le e = let k = ih c d e in omega (arith, le, k)
  then_higher n h ih (accepted t) d le e = absurd (cc)
  then_higher n h ih (failed c) d le e = absurd (cc)
  then_higher n h ih stuck d le e = absurd (cc)

  run_higher : (n : ℕ) (c d : Config L) → run G a tok n c ≡ going d → length d.states ≤ length c.states + n
  run_higher zero c d e = let f = ap (λ x. length x.states) (going_same L G a tok c d e) in omega (arith, f)
  run_higher (suc n) c d e = then_higher n (length c.states) (λ x y u. run_higher n x y u) (step G a tok c) d (step_higher c.states c.trees c.rest) e

  module _ (x : Sym) (cap : ℕ) (input : List L) (safe : Safe G a) (has_start : HasStart G x) (chains : ChainsWithin G a cap) where
    some_states : (ss : List ℕ) (w : List Sym) → IsPath a ss w → (s : ℕ) × (ss' : List ℕ) × (ss ≡ s ∷ ss')
    some_states [] w p = absurd p
    some_states (s ∷ ss) w p = (s, ss, refl)

    -- so many steps in a row take a lexeme
    no_more : (h : ℕ) (t : ℕ) (c : Config L) → Stands G a tok input c → length c.states ≤ h → Reductions G a t (h * (cap + 1)) c.states → ⊥
    no_more h t c stands le all =
        let (s, ss, e) = some_states c.states _ stands.path in
        let len : length (s ∷ ss) ≤ h = subst (λ l. length l ≤ h) e le in
        let fits : length (s ∷ ss) * (cap + 1) ≤ h * (cap + 1) = mul-le-mul_right (cap + 1) len in
        reductions_bounded G a cap t s ss chains (subst (Reductions G a t (length (s ∷ ss) * (cap + 1))) e (less (length (s ∷ ss) * (cap + 1)) (h * (cap + 1)) c.states fits all))
      where
        less : (n k : ℕ) (ss : List ℕ) → n ≤ k → Reductions G a t k ss → Reductions G a t n ss
        less zero k ss le h = tt
        less (suc n) zero ss le h = absurd (omega arith)
        less (suc n) (suc k) ss le h = (h.0, h.1, less n k h.0 (omega arith) h.2)

    abbrev pub Bound : ℕ → ℕ → Config L → Type 0
    Bound r h c = left (most_steps cap r h) c < most_steps cap r h

    over_bound : (r h : ℕ) (c : Config L) → IsOver (run G a tok (h * (cap + 1)) c) → Bound r h c
    over_bound zero h c o = let le = over (h * (cap + 1)) 1 c o in omega (arith, le)
    over_bound (suc r) h c o =
        let m = most_steps cap r (h * (cap + 2) + 1) in
        let le = over (h * (cap + 1)) (1 + m) c o in
        let e : h * (cap + 1) + (1 + m) ≡ h * (cap + 1) + 1 + m = omega arith in
        let le' : left (h * (cap + 1) + 1 + m) c ≤ h * (cap + 1) = subst (λ k. left k c ≤ h * (cap + 1)) e le in
        omega (arith, le')

    by_outcome : (r h : ℕ) → ((r' : ℕ) → r ≡ suc r' → (d : Config L) → length d.rest ≤ r' → length d.states ≤ h * (cap + 2) + 1 → Stands G a tok input d → Bound r' (h * (cap + 2) + 1) d) →
        (c : Config L) → length c.rest ≤ r → length c.states ≤ h → Stands G a tok input c → (o : Outcome L) → run G a tok (h * (cap + 1)) c ≡ o → Ran L G a tok (h * (cap + 1)) c.states c.rest o → IsGood G a tok x input o → Bound r h c
    by_outcome zero h ih c le up stands (going d) e (inl lt) good = absurd (omega (arith, lt, le))
    by_outcome (suc r) h ih c le up stands (going d) e (inl lt) good =
        let n = h * (cap + 1) in
        let m = most_steps cap r (h * (cap + 2) + 1) in
        let high = run_higher n c d e in
        let wide : h + h * (cap + 1) ≡ h * (cap + 2) = grow h cap in
        let b : left m d < m = ih r refl d (omega (arith, lt, le)) (omega (arith, high, up, wide)) good in
        let s : left (m + 1) d ≡ left m d = stable m 1 d b in
        let k = counts n (m + 1) c d e in
        let f : n + (m + 1) ≡ n + 1 + m = omega arith in
        let g : left (n + 1 + m) c ≡ n + left (m + 1) d = ap (λ j. left j c) (sym f) ∙ k in
        omega (arith, b, s, g)
    by_outcome r h ih c le up stands (going d) e (inr z) good = absurd (no_more h (next_or tok (end_token G) c.rest) c stands up z.1)
    by_outcome r h ih c le up stands (accepted t) e z good = over_bound r h c (λ d f. not_accepted t d (sym e ∙ f))
      where
        not_accepted : (t : Tree L) (d : Config L) → accepted t ≡ going d → ⊥
        not_accepted t d e = cc
    by_outcome r h ih c le up stands (failed b) e z good = over_bound r h c (λ d f. not_failed b d (sym e ∙ f))
      where
        not_failed : (b d : Config L) → failed b ≡ going d → ⊥
        not_failed b d e = cc
    by_outcome r h ih c le up stands stuck e z good = absurd good

    pub bound : (r h : ℕ) (c : Config L) → length c.rest ≤ r → length c.states ≤ h → Stands G a tok input c → Bound r h c
    bound zero h c le up stands = by_outcome zero h (λ r' e. absurd (omega (arith, e))) c le up stands (run G a tok (h * (cap + 1)) c) refl (ran L G a tok (h * (cap + 1)) c) (run_is_good L G a tok safe x has_start input (h * (cap + 1)) c stands)
    bound (suc r) h c le up stands =
        by_outcome (suc r) h (λ r' e d less high good. subst (λ n. Bound n (h * (cap + 2) + 1) d) (pred_same r r' e) (bound r (h * (cap + 2) + 1) d (let q = pred_same r r' e in omega (arith, less, q)) high good)) c le up stands
        (run G a tok (h * (cap + 1)) c) refl (ran L G a tok (h * (cap + 1)) c) (run_is_good L G a tok safe x has_start input (h * (cap + 1)) c stands)

    one_step : (c d : Config L) → step G a tok c ≡ going d → run G a tok 1 c ≡ going d
    one_step c d e = ap (λ o. then_run o (run G a tok 0)) e

    -- the counts of c and of what a step makes of it
    by_step : (k m : ℕ) (c d : Config L) → step G a tok c ≡ going d → left (suc k) c < suc k → left m d < m → left m d < left (suc k) c
    by_step k m c d e x y =
        let one : left (suc k) c ≡ suc (left k d) = ap (λ o. one_more o (left k)) e in
        let z : left k d < k = omega (arith, one, x) in
        let same = same_count m k d y z in
        omega (arith, one, same)

    shorten : (c d : Config L) → Stands G a tok input c → step G a tok c ≡ going d → steps_left G a tok cap d < steps_left G a tok cap c
    unfolding steps_left
    shorten c d stands e =
        let k = one_less (length c.rest) (length c.states) in
        let b = bound (length c.rest) (length c.states) c (omega arith) (omega arith) stands in
        let good = subst (IsGood G a tok x input) (one_step c d e) (run_is_good L G a tok safe x has_start input 1 c stands) in
        let b' = bound (length d.rest) (length d.states) d (omega arith) (omega arith) good in
        let m = most_steps cap (length d.rest) (length d.states) in
        let bk : left (suc k.0) c < suc k.0 = subst (λ n. left n c < n) k.1 b in
        let r = by_step k.0 m c d e bk b' in
        subst (λ n. left m d < left n c) (sym k.1) r
      where
        one_less : (r h : ℕ) → (k : ℕ) × (most_steps cap r h ≡ suc k)
        one_less zero h = (h * (cap + 1), omega arith)
        one_less (suc r) h = (h * (cap + 1) + most_steps cap r (h * (cap + 2) + 1), omega arith)

pub runs_shorten : (L : Type 0) → RunsShorten L
runs_shorten L = record {
  shorten = λ G a tok x cap input c d safe has_start chains stands e. shorten L G a tok x cap input safe has_start chains c d stands e;
}
