-- Edits of a sequence, one after another.
use Rattle.std.proofs.Common.{◌≡◌, ◌≢◌, ℕ, zero, suc, ◌+◌, ◌-◌, ◌≤◌, List, [], ◌∷◌, ◌++◌, length, Option, Some, None, refl, sym, ap, ◌∙◌, subst, arith, ⊎_elim}
use Rattle.std.specs.List.{AllByRecursion}
use Rattle.std.proofs.lemmas.Bool.{cases_lt}
use Rattle.std.proofs.lemmas.List.{length-append}
use Rattle.cfg_theory.specs.Grammar.{end_token, Sym, Grammar, HasStart}
use Rattle.cfg_theory.specs.Tree.{Tree, leaf}
use Rattle.lr_theory.specs.Automaton.{shift, accept, Automaton, Safe}
use Rattle.lr_theory.specs.Machine.{Config, Outcome, going, accepted, failed, stuck, next_or, after_accept, act, step, then_run, run}
use Rattle.lr_theory.specs.Stack.{Stands, IsGood, stack_yield}
use Rattle.lr_theory.specs.Repair.{Edit, insert, delete, keep, apply, with_first, with_rest, GetsPast, Takes}
use Rattle.lr_theory.proofs.Sound.{step_is_good, run_is_good}
use Rattle.lr_theory.proofs.RunTermination.{run_append}
use Rattle.lr_theory.proofs.Swap.{AtMost, run_at_most}
use Rattle.lr_theory.proofs.Repair.{stands_on}
use Rattle.lrpar.specs.Replay.{action_on, Rests, ShiftsTo, ShiftsNot}
use Rattle.lrpar.specs.Taking.{TakesOn, EditsAreTaken}
use Rattle.lrpar.proofs.Turning.{accept_of, good_is_not_stuck, one_step}
use Rattle.lrpar.proofs.Replays.{led, Kept, kept}

pub some_pair : {L : Type 0} (p q : List L × List L) → Some p ≡ Some q → p ≡ q
some_pair p q e = cc

-- what a sequence that puts y first does
pub record PutsFirst {L : Type 0} (y : L) (o : Option (List L × List L)) (put left : List L) : Type 0 where
  pub further : List L
  pub put_is : put ≡ y ∷ further
  pub applied : o ≡ Some (further, left)

pub puts_first : {L : Type 0} (y : L) (o : Option (List L × List L)) (put left : List L) → with_first y o ≡ Some (put, left) → PutsFirst y o put left
puts_first y None put left e = cc
puts_first y (Some r) put left e =
    let same : (y ∷ r.0, r.1) ≡ (put, left) = some_pair (y ∷ r.0, r.1) (put, left) e in
    record {
      further = r.0;
      put_is = sym (ap (λ u. u.0) same);
      applied = ap (λ z. Some (r.0, z)) (ap (λ u. u.1) same);
    }

module _ (L : Type 0) (G : Grammar) (a : Automaton) (tok : L → ℕ) where
  accepted_after : (n k : ℕ) → ((d : Config L) (t : Tree L) → run G a tok n d ≡ accepted t → run G a tok (n + k) d ≡ accepted t) → (o : Outcome L) (t : Tree L) → then_run o (run G a tok n) ≡ accepted t → then_run o (run G a tok (n + k)) ≡ accepted t
  accepted_after n k ih (going d) t h = ih d t h
  accepted_after n k ih (accepted u) t h = h
  accepted_after n k ih (failed d) t h = cc
  accepted_after n k ih stuck t h = cc

  accepted_more : (n k : ℕ) (d : Config L) (t : Tree L) → run G a tok n d ≡ accepted t → run G a tok (n + k) d ≡ accepted t
  accepted_more zero k d t e = cc
  accepted_more (suc n) k d t e =
      let q : suc n + k ≡ suc (n + k) = omega arith in
      ap (λ j. run G a tok j d) q ∙ accepted_after n k (λ b u h. accepted_more n k b u h) (step G a tok d) t e

  pub shift_step : (ss : List ℕ) (ts : List (Tree L)) (y : L) (ws : List L) (q : ℕ) → action_on a (tok y) ss ≡ shift q →
      step G a tok (record { states = ss; trees = ts; rest = y ∷ ws }) ≡ going (record { states = q ∷ ss; trees = leaf y ∷ ts; rest = ws })
  shift_step [] ts y ws q e = cc
  shift_step (s ∷ ss) ts y ws q e = ap (λ k. act G a k (s ∷ ss) ts (y ∷ ws)) e

  accept_step : (ss : List ℕ) (ts : List (Tree L)) → action_on a (end_token G) ss ≡ accept → step G a tok (record { states = ss; trees = ts; rest = [] }) ≡ after_accept ts
  accept_step [] ts e = cc
  accept_step (s ∷ ss) ts e = ap (λ k. act G a k (s ∷ ss) ts []) e

  accepts_at_end : Safe G a → (t : ℕ) (ss : List ℕ) → t ≢ end_token G → action_on a t ss ≢ accept
  accepts_at_end safe t [] other e = cc
  accepts_at_end safe t (s ∷ ss) other e = other ((safe.accepts s t e).1)

  shifts_no_end : Safe G a → (ss : List ℕ) (q : ℕ) → action_on a (end_token G) ss ≢ shift q
  shifts_no_end safe [] q e = cc
  shifts_no_end safe (s ∷ ss) q e = (safe.shifts s (end_token G) q e).1 refl

  at_most_is : (xs : List L) (c : Config L) (o : Outcome L) → o ≡ going c → AtMost L G a tok xs o → length c.rest ≤ length xs
  at_most_is xs c o e h = subst (AtMost L G a tok xs) e h

  -- the stack of d before y is that of d' behind it, whatever comes then
  pub record Passes (k : ℕ) (d d' : Config L) (y : L) : Type 0 where
    pub runs : (ws : List L) → run G a tok k (with_rest d (y ∷ ws)) ≡ going (with_rest d' ws)

  module _ (k : ℕ) (d d' : Config L) (y : L) (passes : Passes k d d' y) where
    past_on : (put left : List L) → GetsPast G a tok d' put left → GetsPast G a tok d (y ∷ put) left
    past_on put [] h = (k + h.0, h.1, run_append L G a tok k h.0 (with_rest d (y ∷ (put ++ []))) (with_rest d' (put ++ [])) (passes.runs (put ++ [])) ∙ h.2)
    past_on put (z ∷ zs) h = (k + h.0, h.1, run_append L G a tok k h.0 (with_rest d (y ∷ (put ++ z ∷ zs))) (with_rest d' (put ++ z ∷ zs)) (passes.runs (put ++ z ∷ zs)) ∙ h.2, h.3)

    past_off : (put left : List L) → GetsPast G a tok d (y ∷ put) left → GetsPast G a tok d' put left
    past_off put [] h =
        let n : h.0 + k ≡ k + h.0 = omega arith in
        (h.0, h.1, sym (run_append L G a tok k h.0 (with_rest d (y ∷ (put ++ []))) (with_rest d' (put ++ [])) (passes.runs (put ++ []))) ∙ ap (λ j. run G a tok j (with_rest d (y ∷ (put ++ [])))) (sym n) ∙ accepted_more h.0 k (with_rest d (y ∷ (put ++ []))) h.1 h.2)
    past_off put (z ∷ zs) h =
        let all = put ++ z ∷ zs in
        let c0 = with_rest d (y ∷ all) in
        let on = passes.runs all in
        ⊎_elim
        (λ lt.
        let n : h.0 + (k - h.0) ≡ k = omega (arith, lt) in
        let later : run G a tok (k - h.0) h.1 ≡ going (with_rest d' all) = sym (run_append L G a tok h.0 (k - h.0) c0 h.1 h.2) ∙ ap (λ j. run G a tok j c0) n ∙ on in
        let few = at_most_is h.1.rest (with_rest d' all) (run G a tok (k - h.0) h.1) later (run_at_most L G a tok (k - h.0) h.1) in
        let len = ap length h.3 in
        absurd (omega (arith, few, len, length-append put (z ∷ zs))))
        (λ le.
        let n : k + (h.0 - k) ≡ h.0 = omega (arith, le) in
        (h.0 - k, h.1, sym (run_append L G a tok k (h.0 - k) c0 (with_rest d' all) on) ∙ ap (λ j. run G a tok j c0) n ∙ h.2, h.3))
        (cases_lt h.0 k)

    -- so a sequence that puts y first is taken exactly where the rest of it is
    module _ (make : ℕ → List L → L) (es fs : List Edit) (first : apply make es d.rest ≡ with_first y (apply make fs d'.rest)) where
      pub takes_on : tok y ≢ end_token G → Takes G a tok make d' fs → Takes G a tok make d es
      takes_on other j = record {
        put = y ∷ j.put;
        left = j.left;
        applied = first ∙ ap (with_first y) j.applied;
        no_end = (other, j.no_end);
        gets_past = past_on j.put j.left j.gets_past;
      }

      pub takes_off : Takes G a tok make d es → Takes G a tok make d' fs
      takes_off j =
          let p = puts_first y (apply make fs d'.rest) j.put j.left (sym first ∙ j.applied) in
          let other : AllByRecursion (λ x. tok x ≢ end_token G) (y ∷ p.further) = subst (AllByRecursion (λ x. tok x ≢ end_token G)) p.put_is j.no_end in
          record {
            put = p.further;
            left = j.left;
            applied = p.applied;
            no_end = other.1;
            gets_past = past_off p.further j.left (subst (λ l. GetsPast G a tok d l j.left) p.put_is j.gets_past);
          }

  module _ (x : Sym) (safe : Safe G a) (start : HasStart G x) where
    -- a shift of y from the stack of d
    pub record Shifted (d : Config L) (y : L) (xs : List L) (ss : List ℕ) : Type 0 where
      pub steps : ℕ
      pub config : Config L
      pub passes : Passes steps d config y
      pub states : config.states ≡ ss
      pub rest_is : config.rest ≡ xs
      pub input : List L
      pub stands : Stands G a tok input config

    pub shifted : (input : List L) (d : Config L) (y : L) (xs : List L) (ss' : List ℕ) → Stands G a tok input (with_rest d (y ∷ xs)) → ShiftsTo G a (tok y) d.states ss' → Shifted d y xs ss'
    shifted input d y xs ss' stands s =
        let m = led L G a tok x safe start input (tok y) d.states s.reduced d.trees (y ∷ xs) refl stands s.rests.leads in
        let d' : Config L = record { states = s.target ∷ s.reduced; trees = leaf y ∷ m.trees; rest = xs } in
        let on : (ws : List L) → run G a tok (m.steps + 1) (with_rest d (y ∷ ws)) ≡ going (with_rest d' ws) =
        λ ws. run_append L G a tok m.steps 1 (with_rest d (y ∷ ws)) (record { states = s.reduced; trees = m.trees; rest = y ∷ ws }) (m.runs (y ∷ ws) refl)
        ∙ one_step G a tok (record { states = s.reduced; trees = m.trees; rest = y ∷ ws }) ∙ shift_step s.reduced m.trees y ws s.target s.cell in
        record {
          steps = m.steps + 1;
          config = d';
          passes = record { runs = on };
          states = sym s.states;
          rest_is = refl;
          input = input;
          stands = subst (IsGood G a tok x input) (on xs) (run_is_good L G a tok safe x start input (m.steps + 1) (with_rest d (y ∷ xs)) stands);
        }

    kept_going : (xs : List L) (c : Config L) (o : Outcome L) → o ≡ going c → Kept L G a tok x safe start xs o → c.rest ≡ xs
    kept_going xs c o e h = subst (Kept L G a tok x safe start xs) e h

    kept_accepted : (xs : List L) (t : Tree L) (o : Outcome L) → o ≡ accepted t → Kept L G a tok x safe start xs o → ⊥
    kept_accepted xs t o e h = subst (Kept L G a tok x safe start xs) e h

    not_past : (d : Config L) (put left : List L) → ((n : ℕ) → Kept L G a tok x safe start (put ++ left) (run G a tok n (with_rest d (put ++ left)))) → GetsPast G a tok d put left → ⊥
    not_past d put [] h p = kept_accepted (put ++ []) p.1 (run G a tok p.0 (with_rest d (put ++ []))) p.2 (h p.0)
    not_past d put (z ∷ zs) h p =
        let k = kept_going (put ++ z ∷ zs) p.1 (run G a tok p.0 (with_rest d (put ++ z ∷ zs))) p.2 (h p.0) in
        let n = ap length (sym p.3 ∙ k) in
        omega (arith, n, length-append put (z ∷ zs))

    -- where the first lexeme isn't shifted, the sequence isn't taken
    pub refused : (make : ℕ → List L → L) (input : List L) (d : Config L) (es : List Edit) (t : ℕ) → Stands G a tok input d → ShiftsNot G a t d.states → t ≢ end_token G →
        (j : Takes G a tok make d es) → next_or tok (end_token G) (j.put ++ j.left) ≡ t → ⊥
    refused make input d es t stands s other j is =
        let here = stands_on L G a tok make (λ c. []) input d es j stands in
        not_past d j.put j.left (λ n. kept L G a tok x safe start (stack_yield d.trees ++ (j.put ++ j.left)) t d.states s.reduced d.trees (j.put ++ j.left) is here s.rests.leads s.rests.last s.cell (accepts_at_end safe t s.reduced other) n) j.gets_past

    -- past the last lexeme the run accepts, or not
    pub ends : (make : ℕ → List L → L) (input : List L) (d : Config L) (ss' : List ℕ) → Stands G a tok input d → d.rest ≡ [] → Rests G a (end_token G) d.states ss' → action_on a (end_token G) ss' ≡ accept → Takes G a tok make d []
    ends make input d ss' stands none r cell =
        let stood : Stands G a tok input (with_rest d []) = subst (λ l. Stands G a tok input (with_rest d l)) none stands in
        let m = led L G a tok x safe start input (end_token G) d.states ss' d.trees [] refl stood r.leads in
        let c : Config L = record { states = ss'; trees = m.trees; rest = [] } in
        let one : step G a tok c ≡ after_accept m.trees = accept_step ss' m.trees cell in
        let good = step_is_good L G a tok safe x start input c m.stands in
        let t = accept_of G a tok m.trees (λ e. good_is_not_stuck G a tok x input (step G a tok c) good (one ∙ e)) in
        record {
          put = [];
          left = [];
          applied = ap (λ l. Some ([], l)) none;
          no_end = tt;
          gets_past = (m.steps + 1, t.0, run_append L G a tok m.steps 1 (with_rest d []) c (m.runs [] refl) ∙ one_step G a tok c ∙ one ∙ ap after_accept t.1);
        }

    pub ends_not : (make : ℕ → List L → L) (input : List L) (d : Config L) (ss' : List ℕ) → Stands G a tok input d → d.rest ≡ [] → Rests G a (end_token G) d.states ss' → action_on a (end_token G) ss' ≢ accept → Takes G a tok make d [] → ⊥
    ends_not make input d ss' stands none r cell j =
        let here = stands_on L G a tok make (λ c. []) input d [] j stands in
        let same : ([], d.rest) ≡ (j.put, j.left) = some_pair ([], d.rest) (j.put, j.left) j.applied in
        let nothing : j.put ++ j.left ≡ [] = ap (λ l. l ++ j.left) (sym (ap (λ u. u.0) same)) ∙ sym (ap (λ u. u.1) same) ∙ none in
        not_past d j.put j.left (λ n. kept L G a tok x safe start (stack_yield d.trees ++ (j.put ++ j.left)) (end_token G) d.states ss' d.trees (j.put ++ j.left) (ap (next_or tok (end_token G)) nothing) here r.leads r.last (shifts_no_end safe ss') cell n) j.gets_past

    -- the next lexeme is shifted
    pub goes : (make : ℕ → List L → L) (input : List L) (d : Config L) (y : L) (ys : List L) (ss' : List ℕ) → Stands G a tok input d → d.rest ≡ y ∷ ys → ShiftsTo G a (tok y) d.states ss' → Takes G a tok make d []
    goes make input d y ys ss' stands next s =
        let stood : Stands G a tok input (with_rest d (y ∷ ys)) = subst (λ l. Stands G a tok input (with_rest d l)) next stands in
        let h = shifted input d y ys ss' stood s in
        record {
          put = [];
          left = y ∷ ys;
          applied = ap (λ l. Some ([], l)) next;
          no_end = tt;
          gets_past = (h.steps, with_rest h.config ys, h.passes.runs ys, refl);
        }

    pub goes_not : (make : ℕ → List L → L) (input : List L) (d : Config L) (y : L) (ys : List L) → Stands G a tok input d → d.rest ≡ y ∷ ys → ShiftsNot G a (tok y) d.states → Takes G a tok make d [] → ⊥
    goes_not make input d y ys stands next s j =
        let same : ([], d.rest) ≡ (j.put, j.left) = some_pair ([], d.rest) (j.put, j.left) j.applied in
        let all : j.put ++ j.left ≡ y ∷ ys = ap (λ l. l ++ j.left) (sym (ap (λ u. u.0) same)) ∙ sym (ap (λ u. u.1) same) ∙ next in
        let other : AllByRecursion (λ z. tok z ≢ end_token G) (y ∷ ys) = subst (AllByRecursion (λ z. tok z ≢ end_token G)) next stands.no_end in
        refused make input d [] (tok y) stands s other.0 j (ap (next_or tok (end_token G)) all)

    module _ (make : ℕ → List L → L) (input : List L) (d : Config L) (stands : Stands G a tok input d) where
      -- an insertion
      pub inserted : (t : ℕ) (ss' : List ℕ) (es : List Edit) → tok (make t d.rest) ≡ t → t ≢ end_token G → ShiftsTo G a t d.states ss' → TakesOn G a tok make d (insert t ∷ es) ss' d.rest es
      inserted t ss' es is other s =
          let y = make t d.rest in
          let no_y : tok y ≢ end_token G = λ e. other (sym is ∙ e) in
          let stood : Stands G a tok (stack_yield d.trees ++ y ∷ d.rest) (with_rest d (y ∷ d.rest)) = record { path = stands.path; are_trees = stands.are_trees; spells = refl; no_end = (no_y, stands.no_end) } in
          let h = shifted (stack_yield d.trees ++ y ∷ d.rest) d y d.rest ss' stood (subst (λ u. ShiftsTo G a u d.states ss') (sym is) s) in
          let first : apply make (insert t ∷ es) d.rest ≡ with_first y (apply make es h.config.rest) = ap (λ l. with_first y (apply make es l)) (sym h.rest_is) in
          record {
            input = h.input;
            config = h.config;
            stands = h.stands;
            states = h.states;
            rest_is = h.rest_is;
            forth = takes_on h.steps d h.config y h.passes make (insert t ∷ es) es first no_y;
            back = takes_off h.steps d h.config y h.passes make (insert t ∷ es) es first;
          }

      pub inserted_not : (t : ℕ) (es : List Edit) → tok (make t d.rest) ≡ t → t ≢ end_token G → ShiftsNot G a t d.states → Takes G a tok make d (insert t ∷ es) → ⊥
      inserted_not t es is other s j =
          let p = puts_first (make t d.rest) (apply make es d.rest) j.put j.left j.applied in
          refused make input d (insert t ∷ es) t stands s other j (ap (λ l. next_or tok (end_token G) (l ++ j.left)) p.put_is ∙ is)

      -- the end token isn't inserted
      pub end_not : (t : ℕ) (es : List Edit) → tok (make t d.rest) ≡ t → t ≡ end_token G → Takes G a tok make d (insert t ∷ es) → ⊥
      end_not t es is e j =
          let p = puts_first (make t d.rest) (apply make es d.rest) j.put j.left j.applied in
          let other : AllByRecursion (λ z. tok z ≢ end_token G) (make t d.rest ∷ p.further) = subst (AllByRecursion (λ z. tok z ≢ end_token G)) p.put_is j.no_end in
          other.0 (is ∙ e)

      module _ (y : L) (ys : List L) (next : d.rest ≡ y ∷ ys) where
        no_y : AllByRecursion (λ z. tok z ≢ end_token G) (y ∷ ys)
        no_y = subst (AllByRecursion (λ z. tok z ≢ end_token G)) next stands.no_end

        -- a lexeme that is kept
        pub kept_one : (ss' : List ℕ) (es : List Edit) → ShiftsTo G a (tok y) d.states ss' → TakesOn G a tok make d (keep ∷ es) ss' ys es
        kept_one ss' es s =
            let stood : Stands G a tok input (with_rest d (y ∷ ys)) = subst (λ l. Stands G a tok input (with_rest d l)) next stands in
            let h = shifted input d y ys ss' stood s in
            let first : apply make (keep ∷ es) d.rest ≡ with_first y (apply make es h.config.rest) = ap (apply make (keep ∷ es)) next ∙ ap (λ l. with_first y (apply make es l)) (sym h.rest_is) in
            record {
              input = h.input;
              config = h.config;
              stands = h.stands;
              states = h.states;
              rest_is = h.rest_is;
              forth = takes_on h.steps d h.config y h.passes make (keep ∷ es) es first no_y.0;
              back = takes_off h.steps d h.config y h.passes make (keep ∷ es) es first;
            }

        pub kept_not : (es : List Edit) → ShiftsNot G a (tok y) d.states → Takes G a tok make d (keep ∷ es) → ⊥
        kept_not es s j =
            let p = puts_first y (apply make es ys) j.put j.left (sym (ap (apply make (keep ∷ es)) next) ∙ j.applied) in
            refused make input d (keep ∷ es) (tok y) stands s no_y.0 j (ap (λ l. next_or tok (end_token G) (l ++ j.left)) p.put_is)

        same_past : (put left : List L) → GetsPast G a tok (with_rest d ys) put left → GetsPast G a tok d put left
        same_past put [] h = h
        same_past put (z ∷ zs) h = h

        past_same : (put left : List L) → GetsPast G a tok d put left → GetsPast G a tok (with_rest d ys) put left
        past_same put [] h = h
        past_same put (z ∷ zs) h = h

        -- a lexeme that is deleted
        pub deleted : (es : List Edit) → TakesOn G a tok make d (delete ∷ es) d.states ys es
        deleted es =
            record {
              input = stack_yield d.trees ++ ys;
              config = with_rest d ys;
              stands = record { path = stands.path; are_trees = stands.are_trees; spells = refl; no_end = no_y.1 };
              states = refl;
              rest_is = refl;
              forth = λ j. record { put = j.put; left = j.left; applied = ap (apply make (delete ∷ es)) next ∙ j.applied; no_end = j.no_end; gets_past = same_past j.put j.left j.gets_past };
              back = λ j. record { put = j.put; left = j.left; applied = sym (ap (apply make (delete ∷ es)) next) ∙ j.applied; no_end = j.no_end; gets_past = past_same j.put j.left j.gets_past };
            }

      module _ (none : d.rest ≡ []) where
        pub nothing_kept : (es : List Edit) → Takes G a tok make d (keep ∷ es) → ⊥
        nothing_kept es j = cc (sym (ap (apply make (keep ∷ es)) none) ∙ j.applied)

        pub nothing_deleted : (es : List Edit) → Takes G a tok make d (delete ∷ es) → ⊥
        nothing_deleted es j = cc (sym (ap (apply make (delete ∷ es)) none) ∙ j.applied)

pub edits_are_taken : (L : Type 0) → EditsAreTaken L
edits_are_taken L = record {
  inserted = λ G a tok x make input d t ss es safe start stands. inserted L G a tok x safe start make input d stands t ss es;
  inserted_not = λ G a tok x make input d t es safe start stands. inserted_not L G a tok x safe start make input d stands t es;
  end_not = λ G a tok x make input d t es safe start stands. end_not L G a tok x safe start make input d stands t es;
  kept_one = λ G a tok x make input d y ys ss es safe start stands next. kept_one L G a tok x safe start make input d stands y ys next ss es;
  kept_not = λ G a tok x make input d y ys es safe start stands next. kept_not L G a tok x safe start make input d stands y ys next es;
  deleted = λ G a tok x make input d y ys es safe start stands next. deleted L G a tok x safe start make input d stands y ys next es;
  nothing_kept = λ G a tok x make input d es safe start stands none. nothing_kept L G a tok x safe start make input d stands none es;
  nothing_deleted = λ G a tok x make input d es safe start stands none. nothing_deleted L G a tok x safe start make input d stands none es;
  goes = λ G a tok x make input d y ys ss safe start stands next s. goes L G a tok x safe start make input d y ys ss stands next s;
  goes_not = λ G a tok x make input d y ys safe start stands next s. goes_not L G a tok x safe start make input d y ys stands next s;
  ends = λ G a tok x make input d ss safe start stands none r e. ends L G a tok x safe start make input d ss stands none r e;
  ends_not = λ G a tok x make input d ss safe start stands none r e. ends_not L G a tok x safe start make input d ss stands none r e;
}
