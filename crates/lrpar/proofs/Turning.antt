-- A turn of a run is a step of the machine.
use Rattle.std.proofs.Common.{◌≡◌, ◌≢◌, ℕ, zero, suc, ◌<◌, ◌≤◌, List, [], ◌∷◌, ◌++◌, length, get_or, take, drop, reverse, Option, Some, None, refl, sym, ap, ◌∙◌, subst, arith}
use Rattle.std.specs.Prelude.{slice_get}
use Rattle.std.proofs.lemmas.List.{take_all, reverse-reverse}
use Rattle.cfg_theory.specs.Grammar.{end_token, Grammar, head_of, body_of, WellFormed, start_symbol}
use Rattle.cfg_theory.proofs.Start.{well_formed_start}
use Rattle.cfg_theory.specs.Tree.{Tree, leaf, node, Forest, none}
use Rattle.lr_theory.specs.Automaton.{Action, shift, reduce, accept, Automaton, Safe}
use Rattle.lr_theory.specs.Chains.{push_goto, goto_from, reduce_by, reduction}
use Rattle.lr_theory.specs.Machine.{Config, Outcome, going, accepted, failed, stuck, next_or, pop, after_pop, after_goto, after_shift, after_accept, act, step_on, step, then_run, run}
use Rattle.lr_theory.specs.Stack.{IsGood}
use Rattle.lr_theory.proofs.Sound.{step_is_good}
use Rattle.state_table.specs.Graphs.{GraphValue}
use Rattle.state_table.specs.TableValues.{TableValue, action_at}
use Rattle.parse_trees.specs.Lex.{Lex, token_by}
use Rattle.state_table.specs.Tables.{automaton_of}
use Rattle.lrpar.specs.Reducing.{states_of, stack_of, AreStates}
use Rattle.lrpar.specs.Run.{StandFor, GoesOn, AcceptsBy}
use Rattle.lrpar.specs.declared.stacks.Stacks.{Stacks}
use Rattle.state_table.specs.declared.stidx.StIdx.{StIdx}
use Rattle.lrpar.proofs.Reduced.{reverse_last, pushed}
use Rattle.parse_trees.proofs.BesideTrees.{reverse_pushed, popped_within}

pub slice_read : {X : Type 0} (xs : List X) (k : ℕ) (x : X) → k < length xs → x ≡ get_or xs k x → slice_get xs k ≡ Some x
slice_read [] k x lt e = absurd (omega arith)
slice_read (y ∷ xs) zero x lt e = ap Some (sym e)
slice_read (y ∷ xs) (suc k) x lt e = slice_read xs k x (omega arith) e

-- the states after a shift
pub are_shifted : (v : TableValue) (ss ss' : List ℕ) (q : ℕ) → AreStates v ss → q < v.states → reverse ss' ≡ q ∷ reverse ss → AreStates v ss'
are_shifted v ss ss' q are lt e =
    let whole : take (length ss) ss ≡ ss = take_all (length ss) ss (omega arith) in
    let same : ss' ≡ take (length ss) ss ++ q ∷ [] = sym (reverse-reverse ss') ∙ ap reverse (e ∙ sym (reverse_pushed ss q)) ∙ reverse-reverse (ss ++ q ∷ []) ∙ ap (λ l. l ++ q ∷ []) (sym whole) in
    subst (AreStates v) (sym same) (record { each = pushed v.states q ss (length ss) lt are.each })

module _ {L : Type 0} (G : Grammar) (a : Automaton) (tok : L → ℕ) where
  then_none : (o : Outcome L) → then_run o (run G a tok zero) ≡ o
  then_none (going c) = refl
  then_none (accepted t) = refl
  then_none (failed c) = refl
  then_none stuck = refl

  pub one_step : (d : Config L) → run G a tok 1 d ≡ step G a tok d
  one_step d = then_none (step G a tok d)

  -- the action that the code found is made
  pub step_is : (m top : ℕ) (ss : List ℕ) (ts : List (Tree L)) (xs : List L) (k : Action) → suc m ≡ length ss → top ≡ get_or ss m top → a.action top (next_or tok (end_token G) xs) ≡ k →
      step_on G a tok (reverse ss) ts xs ≡ act G a k (reverse ss) ts xs
  step_is m top ss ts xs k len is cell = rw (reverse_last ss m top len is, cell) refl

  -- a reduction of the machine is one of its states
  pub reduction_by : (m top p t : ℕ) (ss : List ℕ) → suc m ≡ length ss → top ≡ get_or ss m top → a.action top t ≡ reduce p → reduction G a t (reverse ss) ≡ reduce_by G a (reduce p) (reverse ss)
  reduction_by m top p t ss len is cell = rw (reverse_last ss m top len is, cell) refl

  -- a reduction that isn't stuck
  pub record Made (p : ℕ) (dropped : List ℕ) (popped : Option (Forest L × List (Tree L))) (xs : List L) : Type 0 where
    pub forest : Forest L
    pub below : List (Tree L)
    pub state : ℕ
    pub states : List ℕ
    pub target : ℕ
    pub dropped_is : dropped ≡ state ∷ states
    pub popped_is : popped ≡ Some (forest, below)
    pub to : a.goto state (head_of G p) ≡ Some target
    pub makes : after_pop G a p dropped popped xs ≡ going (record { states = target ∷ state ∷ states; trees = node p forest ∷ below; rest = xs })

  made : (p s : ℕ) (ss : List ℕ) (f : Forest L) (ts : List (Tree L)) (xs : List L) (o : Option ℕ) → a.goto s (head_of G p) ≡ o → after_goto o (s ∷ ss) (node p f ∷ ts) xs ≢ stuck → Made p (s ∷ ss) (Some (f, ts)) xs
  made p s ss f ts xs None e goes = absurd (goes refl)
  made p s ss f ts xs (Some q) e goes = record {
    forest = f;
    below = ts;
    state = s;
    states = ss;
    target = q;
    dropped_is = refl;
    popped_is = refl;
    to = e;
    makes = ap (λ o. after_goto o (s ∷ ss) (node p f ∷ ts) xs) e;
  }

  pub made_of : (p : ℕ) (dropped : List ℕ) (popped : Option (Forest L × List (Tree L))) (xs : List L) → after_pop G a p dropped popped xs ≢ stuck → Made p dropped popped xs
  made_of p [] popped xs goes = absurd (goes refl)
  made_of p (s ∷ ss) None xs goes = absurd (goes refl)
  made_of p (s ∷ ss) (Some (f, ts)) xs goes = made p s ss f ts xs (a.goto s (head_of G p)) refl (λ e. goes e)

  -- an accept that isn't stuck
  pub accept_of : (ts : List (Tree L)) → after_accept ts ≢ stuck → (t : Tree L) × (ts ≡ t ∷ [])
  accept_of [] goes = absurd (goes refl)
  accept_of (t ∷ []) goes = (t, refl)
  accept_of (t ∷ u ∷ ts) goes = absurd (goes refl)

pub good_is_not_stuck : {L : Type 0} (G : Grammar) (a : Automaton) (tok : L → ℕ) (x : _) (input : List L) (o : Outcome L) → IsGood G a tok x input o → o ≢ stuck
good_is_not_stuck G a tok x input o good e = subst (IsGood G a tok x input) e good

pub stack_some : {S : Type 0} (number : S → ℕ) (ss : List (StIdx S)) {q : ℕ} {qs : List ℕ} → stack_of number ss ≡ q ∷ qs → 0 < length ss
stack_some number [] e = cc
stack_some number (s ∷ ss) e = omega arith

some_list : (x y : List ℕ) → Some x ≡ Some y → x ≡ y
some_list x y e = cc

module _ {S L V : Type 0} (number : S → ℕ) (lex : L → Lex) (G : Grammar) (g : GraphValue) (v : TableValue) (holds : V → List (Tree L) → Type 0) (input : List L) (well_formed : WellFormed G) (safe : Safe G (automaton_of g v)) where
  -- the step's outcome is good
  pub good : (s : Stacks S V) (d : Config L) → StandFor number lex G g v holds input s d → IsGood G (automaton_of g v) (token_by lex) (start_symbol G) input (step G (automaton_of g v) (token_by lex) d)
  good s d stand = step_is_good L G (automaton_of g v) (token_by lex) safe (start_symbol G) (well_formed_start G well_formed) input d stand.stands

  -- the step is the action that the code found
  pub stepped : (s : Stacks S V) (d : Config L) (m top : ℕ) (k : Action) → StandFor number lex G g v holds input s d → suc m ≡ length (states_of number s.states.items) → top ≡ get_or (states_of number s.states.items) m top →
      action_at v top (next_or (token_by lex) (end_token G) d.rest) ≡ k → step G (automaton_of g v) (token_by lex) d ≡ act G (automaton_of g v) k (stack_of number s.states.items) d.trees d.rest
  stepped s d m top k stand len is cell =
      ap (λ ss. step_on G (automaton_of g v) (token_by lex) ss d.trees d.rest) stand.states ∙ step_is G (automaton_of g v) (token_by lex) m top (states_of number s.states.items) d.trees d.rest k len is cell

  module _ (s : Stacks S V) (d : Config L) (stand : StandFor number lex G g v holds input s d) where
    -- so it isn't stuck
    pub goes : (k : Action) → step G (automaton_of g v) (token_by lex) d ≡ act G (automaton_of g v) k (stack_of number s.states.items) d.trees d.rest → act G (automaton_of g v) k (stack_of number s.states.items) d.trees d.rest ≢ stuck
    goes k e h = good_is_not_stuck G (automaton_of g v) (token_by lex) (start_symbol G) input (step G (automaton_of g v) (token_by lex) d) (good s d stand) (e ∙ h)

    reduction_made : (p : ℕ) → step G (automaton_of g v) (token_by lex) d ≡ act G (automaton_of g v) (reduce p) (stack_of number s.states.items) d.trees d.rest →
        Made G (automaton_of g v) (token_by lex) p (drop (length (body_of G p)) (stack_of number s.states.items)) (pop (length (body_of G p)) d.trees none) d.rest
    reduction_made p e = made_of G (automaton_of g v) (token_by lex) p (drop (length (body_of G p)) (stack_of number s.states.items)) (pop (length (body_of G p)) d.trees none) d.rest (goes (reduce p) e)

    pub reduction_goes : (p : ℕ) → step G (automaton_of g v) (token_by lex) d ≡ act G (automaton_of g v) (reduce p) (stack_of number s.states.items) d.trees d.rest →
        (next : List ℕ) × (reduce_by G (automaton_of g v) (reduce p) (stack_of number s.states.items) ≡ Some next)
    reduction_goes p e =
        let r = reduction_made p e in
        (r.target ∷ r.state ∷ r.states, ap (goto_from G (automaton_of g v) p) r.dropped_is ∙ ap (λ o. push_goto o (r.state ∷ r.states)) r.to)

    -- and has its trees
    pub reduction_holds : (p : ℕ) → step G (automaton_of g v) (token_by lex) d ≡ act G (automaton_of g v) (reduce p) (stack_of number s.states.items) d.trees d.rest →
        (ts : List (Tree L)) × holds s.values ts × (length (body_of G p) ≤ length ts)
    reduction_holds p e =
        let r = reduction_made p e in
        (d.trees, stand.held, popped_within (length (body_of G p)) d.trees none (r.forest, r.below) r.popped_is)

    pub turned_reduce : (p : ℕ) (s' : Stacks S V) → step G (automaton_of g v) (token_by lex) d ≡ act G (automaton_of g v) (reduce p) (stack_of number s.states.items) d.trees d.rest →
        reduce_by G (automaton_of g v) (reduce p) (stack_of number s.states.items) ≡ Some (stack_of number s'.states.items) →
        ((ts below : List (Tree L)) (f : Forest L) → holds s.values ts → pop (length (body_of G p)) ts none ≡ Some (f, below) → holds s'.values (node p f ∷ below)) →
        GoesOn number lex G g v holds input 1 d s' d.rest
    turned_reduce p s' e now held =
        let a = automaton_of g v in
        let tok = token_by lex in
        let n = length (body_of G p) in
        let r = reduction_made p e in
        let after : goto_from G a p (drop n (stack_of number s.states.items)) ≡ Some (r.target ∷ r.state ∷ r.states) = ap (goto_from G a p) r.dropped_is ∙ ap (λ o. push_goto o (r.state ∷ r.states)) r.to in
        let same : stack_of number s'.states.items ≡ r.target ∷ r.state ∷ r.states = some_list (stack_of number s'.states.items) (r.target ∷ r.state ∷ r.states) (sym now ∙ after) in
        let c : Config L = record { states = r.target ∷ r.state ∷ r.states; trees = node p r.forest ∷ r.below; rest = d.rest } in
        let on : step G a tok d ≡ going c = e ∙ r.makes in
        record {
          config = c;
          goes = one_step G a tok d ∙ on;
          stand = record {
            states = sym same;
            stands = subst (IsGood G a tok (start_symbol G) input) on (good s d stand);
            held = held d.trees r.below r.forest stand.held r.popped_is;
          };
          rest_is = refl;
        }

    pub turned_shift : (q : ℕ) (x : L) (xs : List L) (s' : Stacks S V) → step G (automaton_of g v) (token_by lex) d ≡ act G (automaton_of g v) (shift q) (stack_of number s.states.items) d.trees d.rest → d.rest ≡ x ∷ xs →
        stack_of number s'.states.items ≡ q ∷ stack_of number s.states.items → ((ts : List (Tree L)) → holds s.values ts → holds s'.values (leaf x ∷ ts)) → GoesOn number lex G g v holds input 1 d s' xs
    turned_shift q x xs s' e rest now held =
        let a = automaton_of g v in
        let tok = token_by lex in
        let c : Config L = record { states = q ∷ stack_of number s.states.items; trees = leaf x ∷ d.trees; rest = xs } in
        let on : step G a tok d ≡ going c = e ∙ ap (after_shift q (stack_of number s.states.items) d.trees) rest in
        record {
          config = c;
          goes = one_step G a tok d ∙ on;
          stand = record {
            states = sym now;
            stands = subst (IsGood G a tok (start_symbol G) input) on (good s d stand);
            held = held d.trees stand.held;
          };
          rest_is = refl;
        }

    -- the entry on top is that of the tree
    pub turned_accept : step G (automaton_of g v) (token_by lex) d ≡ act G (automaton_of g v) accept (stack_of number s.states.items) d.trees d.rest → AcceptsBy lex G g v holds 1 d s.values
    turned_accept e =
        let a = automaton_of g v in
        let tok = token_by lex in
        let t = accept_of G a tok d.trees (goes accept e) in
        record { tree = t.0; accepts = one_step G a tok d ∙ e ∙ ap after_accept t.1; held = subst (holds s.values) t.1 stand.held }
