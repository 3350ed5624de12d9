-- The stack right after a repair and the next shift is that of a run from the start.
use Rattle.std.proofs.Common.{◌≡◌, ℕ, zero, suc, ◌<◌, ◌≤◌, inl, inr, List, [], ◌∷◌, ◌++◌, length, map, refl, sym, ap, ◌∙◌, subst, arith, append_assoc, length-append}
use Rattle.std.proofs.Math.Decide.{dec_lt}
use Rattle.std.specs.List.{AllByRecursion}
use Rattle.cfg_theory.specs.Grammar.{Sym, Grammar}
use Rattle.cfg_theory.specs.Tree.{Tree, leaf, root, IsTree}
use Rattle.cfg_theory.specs.Derivation.{AllProductive}
use Rattle.lr_theory.specs.Automaton.{Automaton}
use Rattle.lr_theory.specs.Machine.{Config, Outcome, going, accepted, failed, stuck, step, then_run, run, start_config}
use Rattle.lr_theory.specs.Stack.{IsPath, stack_yield, Stands, IsGood}
use Rattle.lr_theory.specs.ViablePrefix.{HasPresent}
use Rattle.lr_theory.specs.ErrorPlaces.{IsReady}
use Rattle.lr_theory.specs.Repair.{Edit, with_rest, GetsPast, Takes}
use Rattle.lr_theory.specs.StackAfterRepair.{IsFirstWith, RepairsAreFresh}
use Rattle.lr_theory.proofs.RunTermination.{going_same}
use Rattle.lr_theory.proofs.Fresh.{fresh_for}
use Rattle.lr_theory.proofs.Repair.{stands_on}
use Rattle.lr_theory.proofs.Sound.{run_is_good}
use Rattle.lr_theory.proofs.Trace.{Shifted, Kind, step_kind}

module _ (L : Type 0) (G : Grammar) (a : Automaton) (tok : L → ℕ) where
  -- what is left later is no more, and the same where it is as much
  left_after : (n : ℕ) → ((c d : Config L) → run G a tok n c ≡ going d → (length d.rest ≤ length c.rest) × (length c.rest ≤ length d.rest → c.rest ≡ d.rest)) → (xs : List L) (d : Config L) (o : Outcome L) → Kind L G a tok xs o → then_run o (run G a tok n) ≡ going d →
      (length d.rest ≤ length xs) × (length xs ≤ length d.rest → xs ≡ d.rest)
  left_after n ih xs d (going b) (inl (k, e)) h = let r = (ih b d h).0 in let q = ap length e in (omega arith, λ le. absurd (omega arith))
  left_after n ih xs d (going b) (inr e) h = let r = ih b d h in let q = ap length e in let x = r.0 in (omega arith, λ le. sym e ∙ r.1 (omega arith))
  left_after n ih xs d (accepted t) k h = cc
  left_after n ih xs d (failed b) k h = cc
  left_after n ih xs d stuck k h = cc

  left_by : (n : ℕ) (c d : Config L) → run G a tok n c ≡ going d → (length d.rest ≤ length c.rest) × (length c.rest ≤ length d.rest → c.rest ≡ d.rest)
  left_by zero c d h = let e = ap (λ b. b.rest) (going_same L G a tok c d h) in let q = ap length e in (omega arith, λ le. e)
  left_by (suc n) c d h = left_after n (left_by n) c.rest d (step G a tok c) (step_kind L G a tok c.states c.trees c.rest) h

  -- a run that shifts comes first with these lexemes left by the shift of the one before them
  record Comes (left : List L) (c : Config L) : Type 0 where
    to : Config L
    steps : ℕ
    comes : run G a tok steps c ≡ going to
    rest : to.rest ≡ left
    longer : (n : ℕ) (b : Config L) → n < steps → run G a tok n c ≡ going b → length left < length b.rest
    shifted : Shifted L G a tok to
    before : List L
    spelt : c.rest ≡ before ++ shifted.y ∷ left

  module _ (left : List L) where
    begun : (c c' : Config L) (n j : ℕ) (b : Config L) → step G a tok c ≡ going c' → length left < length c.rest → ((m : ℕ) (b : Config L) → m < n → run G a tok m c' ≡ going b → length left < length b.rest) → j < suc n → run G a tok j c ≡ going b → length left < length b.rest
    begun c c' n zero b e lt longer within h = let q = ap (λ d. length d.rest) (going_same L G a tok c b h) in omega arith
    begun c c' n (suc j) b e lt longer within h = longer j b (omega arith) (sym (ap (λ o. then_run o (run G a tok j)) e) ∙ h)

    one_more : (c c' : Config L) (more : List L) → step G a tok c ≡ going c' → length left < length c.rest → c.rest ≡ more ++ c'.rest → Comes left c' → Comes left c
    one_more c c' more e lt split h = record {
      to = h.to;
      steps = suc h.steps;
      comes = ap (λ o. then_run o (run G a tok h.steps)) e ∙ h.comes;
      rest = h.rest;
      longer = λ j b within k. begun c c' h.steps j b e lt h.longer within k;
      shifted = h.shifted;
      before = more ++ h.before;
      spelt = split ∙ ap (λ l. more ++ l) h.spelt ∙ sym (append_assoc more h.before (h.shifted.y ∷ left));
    }

    by_step : (n : ℕ) → ((c d : Config L) → run G a tok n c ≡ going d → d.rest ≡ left → length left < length c.rest → Comes left c) → (c d : Config L) (o : Outcome L) → step G a tok c ≡ o → Kind L G a tok c.rest o → then_run o (run G a tok n) ≡ going d → d.rest ≡ left → length left < length c.rest → Comes left c
    by_step n ih c d (going c') e (inr k) h r lt = let q = ap length k in one_more c c' [] e lt (sym k) (ih c' d h r (omega arith))
    by_step n ih c d (going c') e (inl (k, split)) h r lt = by (dec_lt (length left) (length c'.rest))
      where
        by : Dec (length left < length c'.rest) → Comes left c
        by (yes more) = one_more c c' (k.y ∷ []) e lt split (ih c' d h r more)
        by (no not) =
            let q = ap length r in
            let all : c'.rest ≡ left = (left_by n c' d h).1 (omega arith) ∙ r in
            record {
              to = c';
              steps = 1;
              comes = ap (λ o. then_run o (run G a tok 0)) e;
              rest = all;
              longer = λ j b within m. begun c c' 0 j b e lt (λ i b w x. absurd (omega arith)) within m;
              shifted = k;
              before = [];
              spelt = split ∙ ap (λ l. k.y ∷ l) all;
            }
    by_step n ih c d (accepted t) e k h r lt = cc
    by_step n ih c d (failed b) e k h r lt = cc
    by_step n ih c d stuck e k h r lt = cc

    comes_first : (n : ℕ) (c d : Config L) → run G a tok n c ≡ going d → d.rest ≡ left → length left < length c.rest → Comes left c
    comes_first zero c d h r lt = let q = ap (λ b. length b.rest) (going_same L G a tok c d h) in let s = ap length r in absurd (omega arith)
    comes_first (suc n) c d h r lt = by_step n (comes_first n) c d (step G a tok c) refl (step_kind L G a tok c.states c.trees c.rest) h r lt

  module _ (x : Sym) (ready : IsReady G a x) (present : HasPresent G a) (productive : AllProductive G) where
    -- such a stack is that of a run from the start
    fresh_stack : (input : List L) (c : Config L) (q s : ℕ) (ss : List ℕ) (y : L) (ts : List (Tree L)) → c.states ≡ q ∷ s ∷ ss → c.trees ≡ leaf y ∷ ts → Stands G a tok input c → (n : ℕ) × (run G a tok n (start_config a input) ≡ going c)
    fresh_stack input c q s ss y ts states trees stands =
        let path : IsPath a (q ∷ s ∷ ss) (map (root G tok) (leaf y ∷ ts)) = subst (λ l. IsPath a l (map (root G tok) (leaf y ∷ ts))) states (subst (λ l. IsPath a c.states (map (root G tok) l)) trees stands.path) in
        let ok = subst (AllByRecursion (λ u. IsTree G tok u)) trees stands.are_trees in
        let f = fresh_for L G tok a x q s ss y ts c.rest ready present productive path ok.1 in
        let spelt : stack_yield ts ++ y ∷ c.rest ≡ input = sym (append_assoc (stack_yield ts) (y ∷ []) c.rest) ∙ ap (λ l. stack_yield l ++ c.rest) (sym trees) ∙ stands.spells in
        let same : record { states = q ∷ s ∷ ss; trees = leaf y ∷ ts; rest = c.rest } ≡ c = (λ i. record { states = (sym states) i; trees = (sym trees) i; rest = c.rest }) in
        (f.0, sym (ap (λ l. run G a tok f.0 (start_config a l)) spelt) ∙ f.1 ∙ ap going same)

    -- where the last tree is a lexeme there are two states
    by_states : (input : List L) (c : Config L) (y : L) (ts : List (Tree L)) → c.trees ≡ leaf y ∷ ts → Stands G a tok input c → (states : List ℕ) → c.states ≡ states → IsPath a states (map (root G tok) (leaf y ∷ ts)) → (n : ℕ) × (run G a tok n (start_config a input) ≡ going c)
    by_states input c y ts trees stands [] e path = absurd path
    by_states input c y ts trees stands (q ∷ []) e path = absurd path
    by_states input c y ts trees stands (q ∷ s ∷ ss) e path = fresh_stack input c q s ss y ts e trees stands

    shifted : (input : List L) (c : Config L) (y : L) (ts : List (Tree L)) → Stands G a tok input c → c.trees ≡ leaf y ∷ ts → (n : ℕ) × (run G a tok n (start_config a input) ≡ going c)
    shifted input c y ts stands trees = by_states input c y ts trees stands c.states refl (subst (λ l. IsPath a c.states (map (root G tok) l)) trees stands.path)

    last_same : (before put : List L) (z y : L) (left : List L) → put ++ y ∷ left ≡ before ++ z ∷ left → z ≡ y
    last_same [] [] z y left e = cc
    last_same [] (w ∷ put) z y left e = let q = ap length e in let r = length-append put (y ∷ left) in absurd (omega arith)
    last_same (b ∷ before) [] z y left e = let q = ap length e in let r = length-append before (z ∷ left) in absurd (omega arith)
    last_same (b ∷ before) (w ∷ put) z y left e = last_same before put z y left (let t : put ++ y ∷ left ≡ before ++ z ∷ left = cc in t)

    next_shift : (make : ℕ → List L → L) (input : List L) (d : Config L) (es : List Edit) → Stands G a tok input d → (k : Takes G a tok make d es) → (y : L) (ys : List L) → k.left ≡ y ∷ ys →
        (c : Config L) × IsFirstWith G a tok ys (with_rest d (k.put ++ k.left)) c × ((ts : List (Tree L)) × (c.trees ≡ leaf y ∷ ts)) × ((n : ℕ) × (run G a tok n (start_config a (stack_yield d.trees ++ (k.put ++ k.left))) ≡ going c))
    next_shift make input d es stands k y ys e =
        let past : (n : ℕ) × (c : Config L) × (run G a tok n (with_rest d (k.put ++ y ∷ ys)) ≡ going c) × (c.rest ≡ ys) = subst (GetsPast G a tok d k.put) e k.gets_past in
        let from : run G a tok past.0 (with_rest d (k.put ++ k.left)) ≡ going past.1 = ap (λ l. run G a tok past.0 (with_rest d (k.put ++ l))) e ∙ past.2 in
        let h = comes_first ys past.0 (with_rest d (k.put ++ k.left)) past.1 from past.3 (let p = length-append k.put k.left in let q = ap length e in omega arith) in
        let here = stands_on L G a tok make (λ c. []) input d es k stands in
        let all = stack_yield d.trees ++ (k.put ++ k.left) in
        let good : Stands G a tok all h.to = subst (IsGood G a tok x all) h.comes (run_is_good L G a tok ready.safe x ready.has_start all h.steps (with_rest d (k.put ++ k.left)) here) in
        let same : h.shifted.y ≡ y = last_same h.before k.put h.shifted.y y ys (spelt h.before h.shifted.y h.spelt) in
        let trees : h.to.trees ≡ leaf y ∷ h.shifted.ts = subst (λ z. h.to.trees ≡ leaf z ∷ h.shifted.ts) same h.shifted.trees_are in (
          h.to,
          record { steps = h.steps; comes = h.comes; rest = h.rest; first = λ n b lt m r. let q = h.longer n b lt m in let p = ap length r in omega arith },
          (h.shifted.ts, trees),
          shifted all h.to y h.shifted.ts good trees,
        )
      where
        spelt : (before : List L) (z : L) → k.put ++ k.left ≡ before ++ z ∷ ys → k.put ++ y ∷ ys ≡ before ++ z ∷ ys
        spelt before z h = ap (λ l. k.put ++ l) (sym e) ∙ h

pub repairs_are_fresh : (L : Type 0) → RepairsAreFresh L
repairs_are_fresh L = record {
  shifted = λ G a tok x input c y ts ready present productive stands e. shifted L G a tok x ready present productive input c y ts stands e;
  next_shift = λ G a tok make x input d es ready present productive stands k y ys e. next_shift L G a tok x ready present productive make input d es stands k y ys e;
}
