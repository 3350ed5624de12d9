-- What may come next on the states of a run is what may come next in the run.
use Rattle.std.proofs.Common.{◌≡◌, ◌≢◌, ℕ, ◌+◌, ◌<◌, ◌↔◌, Bool, true, false, List, [], ◌∷◌, ◌++◌, length, drop, get_or, Some, None, refl, sym, ap, ◌∙◌, subst, arith, inl, inr}
use Rattle.std.specs.List.{AllByRecursion}
use Rattle.std.proofs.lemmas.Option.{get_or_from_slice_get, slice_get-get_or}
use Rattle.cfg_theory.specs.Grammar.{end_token, Sym, Grammar, HasStart, body_of}
use Rattle.cfg_theory.specs.Tree.{Tree, leaf, none as no_trees}
use Rattle.lr_theory.specs.Automaton.{Action, shift, reduce, accept, error, Automaton, Safe}
use Rattle.lr_theory.specs.Chains.{push_goto, goto_from, reduce_by, reduction}
use Rattle.lr_theory.specs.Machine.{Config, going, failed, pop, after_pop, act, step, run, start_config}
use Rattle.lr_theory.specs.NextTokens.{Shifts, Ends}
use Rattle.lr_theory.specs.Repair.{with_rest, GetsPast, Takes}
use Rattle.lr_theory.specs.Stack.{Stands, IsGood, stack_yield}
use Rattle.lr_theory.proofs.RunTermination.{run_append}
use Rattle.lr_theory.proofs.Sound.{step_is_good, run_is_good, start_stands}
use Rattle.lrpar.specs.NextStates.{TellBelow}
use Rattle.lrpar.specs.NextTokens.{Reaches, HasError, IsSet, AreNext}
use Rattle.lrpar.specs.Replay.{action_on, ShiftsTo, ShiftsNot, TellsShift, TellsAccept}
use Rattle.lrpar.proofs.Replays.{led}
use Rattle.lrpar.proofs.Taken.{some_pair, shift_step, goes, goes_not, ends, ends_not}
use Rattle.lrpar.proofs.Turning.{made_of, good_is_not_stuck, one_step}

-- a bit that is read
set_iff : (bits : List Bool) (t : ℕ) → t < length bits → (get_or bits t false ≡ true) ↔ IsSet bits t
set_iff bits t lt = (λ e. slice_get-get_or bits t false lt ∙ ap Some e, λ e. get_or_from_slice_get bits t true false e)

module _ (L : Type 0) (G : Grammar) (a : Automaton) (tok : L → ℕ) where
  -- a run at its start
  pub at_start : (lexemes : List L) → Reaches G a tok lexemes lexemes (start_config a lexemes)
  at_start lexemes = record { steps = 0; goes = refl; rest_is = refl; fresh = inr (refl, refl) }

  module _ (x : Sym) (safe : Safe G a) (start : HasStart G x) where
    module _ (lexemes : List L) (no_end : AllByRecursion (λ z. tok z ≢ end_token G) lexemes) where
      pub stands_there : (rest : List L) (c : Config L) → Reaches G a tok lexemes rest c → Stands G a tok lexemes c
      stands_there rest c r = subst (IsGood G a tok x lexemes) r.goes (run_is_good L G a tok safe x start lexemes r.steps (start_config a lexemes) (start_stands L G a tok safe x start lexemes no_end))

      module _ (y : L) (ys : List L) (c : Config L) (r : Reaches G a tok lexemes (y ∷ ys) c) where
        abbrev here : Config L
        here = with_rest c (y ∷ ys)

        stood : Stands G a tok lexemes here
        stood = subst (λ l. Stands G a tok lexemes (with_rest c l)) r.rest_is (stands_there (y ∷ ys) c r)

        comes : run G a tok r.steps (start_config a lexemes) ≡ going here
        comes = r.goes ∙ ap (λ l. going (with_rest c l)) r.rest_is

        -- the next lexeme is shifted
        pub shifted_one : (ss' : List ℕ) → ShiftsTo G a (tok y) c.states ss' → (c' : Config L) × Reaches G a tok lexemes ys c' × (c'.states ≡ ss')
        shifted_one ss' s =
            let m = led L G a tok x safe start lexemes (tok y) c.states s.reduced c.trees (y ∷ ys) refl stood s.rests.leads in
            let b : Config L = record { states = s.reduced; trees = m.trees; rest = y ∷ ys } in
            let c' : Config L = record { states = s.target ∷ s.reduced; trees = leaf y ∷ m.trees; rest = ys } in
            let on : run G a tok (m.steps + 1) here ≡ going c' = run_append L G a tok m.steps 1 here b (m.runs (y ∷ ys) refl) ∙ one_step G a tok b ∙ shift_step L G a tok s.reduced m.trees y ys s.target s.cell in
            (c', record { steps = r.steps + (m.steps + 1); goes = run_append L G a tok r.steps (m.steps + 1) (start_config a lexemes) here comes ∙ on; rest_is = refl; fresh = inl (y, m.trees, refl) }, sym s.states)

        fails_by : (s : ℕ) (ss : List ℕ) (ts : List (Tree L)) (k : Action) → a.action s (tok y) ≡ k → Stands G a tok lexemes (record { states = s ∷ ss; trees = ts; rest = y ∷ ys }) → reduce_by G a k (s ∷ ss) ≡ None →
            ((q : ℕ) → k ≢ shift q) → k ≢ accept → step G a tok (record { states = s ∷ ss; trees = ts; rest = y ∷ ys }) ≡ failed (record { states = s ∷ ss; trees = ts; rest = y ∷ ys })
        fails_by s ss ts (shift q) cell stands e f h = absurd (f q refl)
        fails_by s ss ts (reduce p) cell stands e f h =
            let b : Config L = record { states = s ∷ ss; trees = ts; rest = y ∷ ys } in
            let n = length (body_of G p) in
            let now : step G a tok b ≡ after_pop G a p (drop n (s ∷ ss)) (pop n ts no_trees) (y ∷ ys) = ap (λ k. act G a k (s ∷ ss) ts (y ∷ ys)) cell in
            let good = step_is_good L G a tok safe x start lexemes b stands in
            let m = made_of G a tok p (drop n (s ∷ ss)) (pop n ts no_trees) (y ∷ ys) (λ j. good_is_not_stuck G a tok x lexemes (step G a tok b) good (now ∙ j)) in
            let to : goto_from G a p (drop n (s ∷ ss)) ≡ Some (m.target ∷ m.state ∷ m.states) = ap (goto_from G a p) m.dropped_is ∙ ap (λ o. push_goto o (m.state ∷ m.states)) m.to in
            cc (sym e ∙ to)
        fails_by s ss ts accept cell stands e f h = absurd (h refl)
        fails_by s ss ts error cell stands e f h = ap (λ k. act G a k (s ∷ ss) ts (y ∷ ys)) cell

        fails_on : (ss : List ℕ) (ts : List (Tree L)) → Stands G a tok lexemes (record { states = ss; trees = ts; rest = y ∷ ys }) → reduction G a (tok y) ss ≡ None → ((q : ℕ) → action_on a (tok y) ss ≢ shift q) →
            step G a tok (record { states = ss; trees = ts; rest = y ∷ ys }) ≡ failed (record { states = ss; trees = ts; rest = y ∷ ys })
        fails_on [] ts stands e f = absurd stands.path
        fails_on (s ∷ ss) ts stands e f = fails_by s ss ts (a.action s (tok y)) refl stands e f (λ k. stands.no_end.0 ((safe.accepts s (tok y) k).1))

        -- or the run fails before it
        pub failed_there : ShiftsNot G a (tok y) c.states → HasError G a tok lexemes
        failed_there s =
            let m = led L G a tok x safe start lexemes (tok y) c.states s.reduced c.trees (y ∷ ys) refl stood s.rests.leads in
            let b : Config L = record { states = s.reduced; trees = m.trees; rest = y ∷ ys } in
            let on : run G a tok (m.steps + 1) here ≡ failed b = run_append L G a tok m.steps 1 here b (m.runs (y ∷ ys) refl) ∙ one_step G a tok b ∙ fails_on s.reduced m.trees m.stands s.rests.last s.cell in
            HasError.fails (r.steps + (m.steps + 1)) b (run_append L G a tok r.steps (m.steps + 1) (start_config a lexemes) here comes ∙ on) (omega arith)

    module _ (input : List L) (c : Config L) (stands : Stands G a tok input c) where
      -- one lexeme next
      module _ (y : L) (other : tok y ≢ end_token G) where
        abbrev make : ℕ → List L → L
        make t xs = y

        abbrev one : Config L
        one = with_rest c (y ∷ [])

        one_stands : Stands G a tok (stack_yield c.trees ++ y ∷ []) one
        one_stands = record { path = stands.path; are_trees = stands.are_trees; spells = refl; no_end = (other, tt) }

        takes_shifts : Takes G a tok make one [] → Shifts G a tok c y
        takes_shifts j =
            let same = some_pair ([], y ∷ []) (j.put, j.left) j.applied in
            subst (λ (u : List L × List L). GetsPast G a tok one u.0 u.1) (sym same) j.gets_past

        shifts_takes : Shifts G a tok c y → Takes G a tok make one []
        shifts_takes h = record { put = []; left = y ∷ []; applied = refl; no_end = tt; gets_past = h }

        pub shifts_told : (ss' : List ℕ) (told : Bool) → TellsShift G a (tok y) c.states ss' told → (told ≡ true) ↔ Shifts G a tok c y
        shifts_told ss' true s = (λ e. takes_shifts (goes L G a tok x safe start make (stack_yield c.trees ++ y ∷ []) one y [] ss' one_stands refl s), λ h. refl)
        shifts_told ss' false s = (λ e. cc e, λ h. absurd (goes_not L G a tok x safe start make (stack_yield c.trees ++ y ∷ []) one y [] one_stands refl s (shifts_takes h)))

      -- the end next
      abbrev last : Config L
      last = with_rest c []

      last_stands : Stands G a tok (stack_yield c.trees ++ []) last
      last_stands = record { path = stands.path; are_trees = stands.are_trees; spells = refl; no_end = tt }

      module _ (make : ℕ → List L → L) where
        takes_ends : Takes G a tok make last [] → Ends G a tok c
        takes_ends j =
            let same = some_pair ([], []) (j.put, j.left) j.applied in
            subst (λ (u : List L × List L). GetsPast G a tok last u.0 u.1) (sym same) j.gets_past

        ends_takes : Ends G a tok c → Takes G a tok make last []
        ends_takes h = record { put = []; left = []; applied = refl; no_end = tt; gets_past = h }

        ends_told : (told : Bool) → TellsAccept G a (end_token G) c.states told → (told ≡ true) ↔ Ends G a tok c
        ends_told true s = (λ e. takes_ends (ends L G a tok x safe start make (stack_yield c.trees ++ []) last s.0 last_stands refl s.1 s.2), λ h. refl)
        ends_told false s = (λ e. cc e, λ h. absurd (ends_not L G a tok x safe start make (stack_yield c.trees ++ []) last s.0 last_stands refl s.1 s.2 (ends_takes h)))

      iff : {A B C : Type 0} → A ↔ B → A ↔ C → B ↔ C
      iff h k = (λ b. k.0 (h.1 b), λ d. h.0 (k.1 d))

      -- so bits that tell it of the states are those of the run
      pub are_next : (make : ℕ → List L → L) (bits : List Bool) → 0 < G.tokens → TellBelow G a c.states G.tokens bits → AreNext G a tok c bits
      are_next make bits some h = record {
        count = h.count;
        shifts = λ y lt.
            let within : tok y < length bits = let n = h.count in omega (arith, lt, n) in
            let e = (h.each (tok y) (omega (arith, lt))).shifts (λ e. omega (arith, lt, e)) in
            iff (set_iff bits (tok y) within) (shifts_told y (λ e. omega (arith, lt, e)) e.0 (get_or bits (tok y) false) e.1);
        ends =
            let within : end_token G < length bits = let n = h.count in omega (arith, n, some) in
            iff (set_iff bits (end_token G) within) (ends_told make (get_or bits (end_token G) false) ((h.each (end_token G) (omega (arith, some))).ends refl));
      }
