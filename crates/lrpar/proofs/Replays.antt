-- What turns on one token come to on states alone is what the machine does where the stack stands.
use Rattle.std.proofs.Common.{◌≡◌, ◌≢◌, ℕ, zero, suc, List, [], ◌∷◌, length, drop, Option, Some, None, refl, sym, ap, ◌∙◌, subst}
use Rattle.cfg_theory.specs.Grammar.{end_token, Sym, Grammar, HasStart, head_of, body_of}
use Rattle.cfg_theory.specs.Tree.{Tree, node, Forest, none as no_trees}
use Rattle.lr_theory.specs.Automaton.{Action, shift, reduce, accept, error, Automaton, Safe}
use Rattle.lr_theory.specs.Chains.{push_goto, goto_from, reduce_by, reduction}
use Rattle.lr_theory.specs.Machine.{Config, Outcome, going, accepted, failed, stuck, next_or, pop, after_pop, after_goto, act, step, then_run, run}
use Rattle.lr_theory.specs.Stack.{Stands, IsGood}
use Rattle.lr_theory.proofs.Sound.{step_is_good}
use Rattle.lrpar.specs.Replay.{action_on, Leads, none, first}
use Rattle.lrpar.proofs.Turning.{made_of, good_is_not_stuck}

-- one more reduction at the end
pub leads_more : (G : Grammar) (a : Automaton) (t : ℕ) {ss ss' ss'' : List ℕ} → Leads G a t ss ss' → reduction G a t ss' ≡ Some ss'' → Leads G a t ss ss''
leads_more G a t {ss} {ss'} {ss''} none e = first ss'' e none
leads_more G a t (first mid e h) e' = first mid e (leads_more G a t h e')

some_list : (x y : List ℕ) → Some x ≡ Some y → x ≡ y
some_list x y e = cc

module _ (L : Type 0) (G : Grammar) (a : Automaton) (tok : L → ℕ) (x : Sym) (safe : Safe G a) (start : HasStart G x) where
  abbrev pub at : List ℕ → List (Tree L) → List L → Config L
  at ss ts xs = record { states = ss; trees = ts; rest = xs }

  -- one reduction of the states is a step, whatever comes behind the next lexeme
  record Reduced (input : List L) (t : ℕ) (ss : List ℕ) (ts : List (Tree L)) (xs : List L) (ss' : List ℕ) : Type 0 where
    trees : List (Tree L)
    steps : (ws : List L) → next_or tok (end_token G) ws ≡ t → step G a tok (at ss ts ws) ≡ going (at ss' trees ws)
    stands : Stands G a tok input (at ss' trees xs)

  module _ (input : List L) (t : ℕ) (ts : List (Tree L)) (xs : List L) (is : next_or tok (end_token G) xs ≡ t) where
    by_made : (s p : ℕ) (ss ss' : List ℕ) → a.action s t ≡ reduce p → Stands G a tok input (at (s ∷ ss) ts xs) → goto_from G a p (drop (length (body_of G p)) (s ∷ ss)) ≡ Some ss' →
        step G a tok (at (s ∷ ss) ts xs) ≡ after_pop G a p (drop (length (body_of G p)) (s ∷ ss)) (pop (length (body_of G p)) ts no_trees) xs → Reduced input t (s ∷ ss) ts xs ss'
    by_made s p ss ss' cell stands e now =
        let good = step_is_good L G a tok safe x start input (at (s ∷ ss) ts xs) stands in
        let m = made_of G a tok p (drop (length (body_of G p)) (s ∷ ss)) (pop (length (body_of G p)) ts no_trees) xs (λ h. good_is_not_stuck G a tok x input (step G a tok (at (s ∷ ss) ts xs)) good (now ∙ h)) in
        let to : goto_from G a p (drop (length (body_of G p)) (s ∷ ss)) ≡ Some (m.target ∷ m.state ∷ m.states) = ap (goto_from G a p) m.dropped_is ∙ ap (λ o. push_goto o (m.state ∷ m.states)) m.to in
        let same : m.target ∷ m.state ∷ m.states ≡ ss' = some_list (m.target ∷ m.state ∷ m.states) ss' (sym to ∙ e) in
        let on : (ws : List L) → next_or tok (end_token G) ws ≡ t → step G a tok (at (s ∷ ss) ts ws) ≡ going (at ss' (node p m.forest ∷ m.below) ws) =
        λ ws w.
        ap (λ u. act G a (a.action s u) (s ∷ ss) ts ws) w ∙ ap (λ k. act G a k (s ∷ ss) ts ws) cell
        ∙ ap (λ d. after_pop G a p d (pop (length (body_of G p)) ts no_trees) ws) m.dropped_is
        ∙ ap (λ o. after_pop G a p (m.state ∷ m.states) o ws) m.popped_is
        ∙ ap (λ o. after_goto o (m.state ∷ m.states) (node p m.forest ∷ m.below) ws) m.to
        ∙ ap (λ l. going (at l (node p m.forest ∷ m.below) ws)) same in
        record {
          trees = node p m.forest ∷ m.below;
          steps = on;
          stands = subst (IsGood G a tok x input) (on xs is) good;
        }

    by_cell : (s : ℕ) (ss ss' : List ℕ) (k : Action) → a.action s t ≡ k → Stands G a tok input (at (s ∷ ss) ts xs) → reduce_by G a k (s ∷ ss) ≡ Some ss' → Reduced input t (s ∷ ss) ts xs ss'
    by_cell s ss ss' (shift q) cell stands e = cc
    by_cell s ss ss' (reduce p) cell stands e =
        by_made s p ss ss' cell stands e (ap (λ u. act G a (a.action s u) (s ∷ ss) ts xs) is ∙ ap (λ k. act G a k (s ∷ ss) ts xs) cell)
    by_cell s ss ss' accept cell stands e = cc
    by_cell s ss ss' error cell stands e = cc

    reduced : (ss ss' : List ℕ) → Stands G a tok input (at ss ts xs) → reduction G a t ss ≡ Some ss' → Reduced input t ss ts xs ss'
    reduced [] ss' stands e = cc
    reduced (s ∷ ss) ss' stands e = by_cell s ss ss' (a.action s t) refl stands e

  -- so are several
  pub record Led (input : List L) (t : ℕ) (ss : List ℕ) (ts : List (Tree L)) (xs : List L) (ss' : List ℕ) : Type 0 where
    pub steps : ℕ
    pub trees : List (Tree L)
    pub runs : (ws : List L) → next_or tok (end_token G) ws ≡ t → run G a tok steps (at ss ts ws) ≡ going (at ss' trees ws)
    pub stands : Stands G a tok input (at ss' trees xs)

  pub led : (input : List L) (t : ℕ) (ss ss' : List ℕ) (ts : List (Tree L)) (xs : List L) → next_or tok (end_token G) xs ≡ t → Stands G a tok input (at ss ts xs) → Leads G a t ss ss' → Led input t ss ts xs ss'
  led input t ss ss' ts xs is stands none = record { steps = 0; trees = ts; runs = λ ws w. refl; stands = stands }
  led input t ss ss' ts xs is stands (first mid e h) =
      let one = reduced input t ts xs is ss mid stands e in
      let more = led input t mid ss' one.trees xs is one.stands h in
      record {
        steps = suc more.steps;
        trees = more.trees;
        runs = λ ws w. ap (λ o. then_run o (run G a tok more.steps)) (one.steps ws w) ∙ more.runs ws w;
        stands = more.stands;
      }

  -- no lexeme is taken and nothing accepted
  abbrev pub Kept : List L → Outcome L → Type 0
  Kept xs (going c) = c.rest ≡ xs
  Kept xs (accepted t) = ⊥
  Kept xs (failed c) = Unit {0}
  Kept xs stuck = Unit {0}

  -- where no reduction, shift or accept comes, the machine stops
  module _ (input : List L) (t : ℕ) (ts : List (Tree L)) (xs : List L) (is : next_or tok (end_token G) xs ≡ t) where
    abbrev Stops : Outcome L → Type 0
    Stops (going c) = ⊥
    Stops (accepted u) = ⊥
    Stops (failed c) = Unit {0}
    Stops stuck = Unit {0}

    goto_stops : (p s : ℕ) (ss : List ℕ) (o : Option ℕ) (us : List (Tree L)) → push_goto o (s ∷ ss) ≡ None → Stops (after_goto o (s ∷ ss) us xs)
    goto_stops p s ss None us e = tt
    goto_stops p s ss (Some q) us e = cc

    pop_stops : (p : ℕ) (ss : List ℕ) (o : Option (Forest L × List (Tree L))) → goto_from G a p ss ≡ None → Stops (after_pop G a p ss o xs)
    pop_stops p [] o e = tt
    pop_stops p (s ∷ ss) None e = tt
    pop_stops p (s ∷ ss) (Some (f, us)) e = goto_stops p s ss (a.goto s (head_of G p)) (node p f ∷ us) e

    act_stops : (ss : List ℕ) (k : Action) → reduce_by G a k ss ≡ None → ((q : ℕ) → k ≢ shift q) → k ≢ accept → Stops (act G a k ss ts xs)
    act_stops ss (shift q) e f h = absurd (f q refl)
    act_stops ss (reduce p) e f h = pop_stops p (drop (length (body_of G p)) ss) (pop (length (body_of G p)) ts no_trees) e
    act_stops ss accept e f h = absurd (h refl)
    act_stops ss error e f h = tt

    step_stops : (ss : List ℕ) → reduction G a t ss ≡ None → ((q : ℕ) → action_on a t ss ≢ shift q) → action_on a t ss ≢ accept → Stops (step G a tok (at ss ts xs))
    step_stops [] e f h = tt
    step_stops (s ∷ ss) e f h = subst (λ u. Stops (act G a (a.action s u) (s ∷ ss) ts xs)) (sym is) (act_stops (s ∷ ss) (a.action s t) e f h)

    then_kept : (n : ℕ) (o : Outcome L) → Stops o → Kept xs (then_run o (run G a tok n))
    then_kept n (going c) h = absurd h
    then_kept n (accepted u) h = absurd h
    then_kept n (failed c) h = tt
    then_kept n stuck h = tt

    stops_kept : (ss : List ℕ) → reduction G a t ss ≡ None → ((q : ℕ) → action_on a t ss ≢ shift q) → action_on a t ss ≢ accept → (n : ℕ) → Kept xs (run G a tok n (at ss ts xs))
    stops_kept ss e f h zero = refl
    stops_kept ss e f h (suc n) = then_kept n (step G a tok (at ss ts xs)) (step_stops ss e f h)

  pub kept : (input : List L) (t : ℕ) (ss ss' : List ℕ) (ts : List (Tree L)) (xs : List L) → next_or tok (end_token G) xs ≡ t → Stands G a tok input (at ss ts xs) → Leads G a t ss ss' →
      reduction G a t ss' ≡ None → ((q : ℕ) → action_on a t ss' ≢ shift q) → action_on a t ss' ≢ accept → (n : ℕ) → Kept xs (run G a tok n (at ss ts xs))
  kept input t ss ss' ts xs is stands none e f h n = stops_kept input t ts xs is ss e f h n
  kept input t ss ss' ts xs is stands (first mid e' l) e f h zero = refl
  kept input t ss ss' ts xs is stands (first mid e' l) e f h (suc n) =
      let one = reduced input t ts xs is ss mid stands e' in
      subst (λ o. Kept xs (then_run o (run G a tok n))) (sym (one.steps xs is)) (kept input t mid ss' one.trees xs is one.stands l e f h n)
