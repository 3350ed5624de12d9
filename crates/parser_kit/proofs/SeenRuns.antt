-- A run on lexemes, as a run on what is seen of them.
use Rattle.std.proofs.Common.{◌≡◌, ◌≢◌, ℕ, zero, suc, ◌≤◌, List, [], ◌∷◌, ◌++◌, length, drop, map, Option, Some, None, refl, sym, ap, ◌∙◌, subst, arith, append_assoc}
use Rattle.std.specs.List.{AllByRecursion}
use Rattle.std.proofs.lemmas.List.{length-append, length-map, map-append}
use Rattle.std.proofs.Math.Seq.{drop-append_seam}
use Rattle.std.specs.Prelude.{option_map}
use Rattle.cfg_theory.specs.Grammar.{Grammar, body_of, end_token, head_of}
use Rattle.cfg_theory.specs.Tree.{Forest, Tree, before, leaf, node, none, yield, yields}
use Rattle.lr_theory.specs.Automaton.{Action, Automaton, accept, error, reduce, shift}
use Rattle.lr_theory.specs.HandedRepairs.{ParsesWith}
use Rattle.lr_theory.specs.Machine.{Config, Outcome, accepted, act, after_accept, after_goto, after_pop, after_shift, failed, going, next_or, pop, run, step, step_on, stuck, then_run}
use Rattle.lr_theory.specs.OfferedRepairs.{Filtered}
use Rattle.lr_theory.specs.Repair.{Edit, GetsPast, IsFirstTaken, Takes, apply, delete, insert, keep, with_first, with_rest}
use Rattle.lr_theory.specs.Stack.{stack_yield}
use Rattle.parser_kit.specs.SeenLexemes.{InsertsWithin, seen_forest, seen_tree}

-- ---- lists

some_same : {X : Type 0} (x y : X) → Some x ≡ Some y → x ≡ y
some_same x y e = cc

not_some : {X : Type 0} (x : X) → None ≡ Some x → ⊥
not_some x e = cc

-- lists of one length that end one list are the same
same_end : {X : Type 0} (xs us ys vs : List X) → xs ++ ys ≡ us ++ vs → length ys ≡ length vs → ys ≡ vs
same_end xs us ys vs e same =
    let lengths : length xs ≡ length us = omega (arith, length-append xs ys, length-append us vs, ap length e, same) in
    sym (drop-append_seam xs ys) ∙ ap (drop (length xs)) e ∙ ap (λ n. drop n (us ++ vs)) lengths ∙ drop-append_seam us vs

-- the second list ends the first
record Ends {X : Type 0} (xs ys : List X) : Type 0 where
  front : List X
  whole : xs ≡ front ++ ys

ends_all : {X : Type 0} (xs ys : List X) → xs ≡ ys → Ends xs ys
ends_all xs ys e = record { front = []; whole = e }

ends_more : {X : Type 0} (x : X) (xs ys : List X) → xs ≡ ys → Ends (x ∷ xs) ys
ends_more x xs ys e = record { front = x ∷ []; whole = ap (λ l. x ∷ l) e }

ends_on : {X : Type 0} (xs ys zs : List X) → Ends xs ys → Ends ys zs → Ends xs zs
ends_on xs ys zs e f = record { front = e.front ++ f.front; whole = e.whole ∙ ap (λ l. e.front ++ l) f.whole ∙ sym (append_assoc e.front f.front zs) }

-- ---- what is seen

module _ {L W : Type 0} (see : L → W) where
  abbrev pub seen_config : Config L → Config W
  seen_config c = record { states = c.states; trees = map (seen_tree see) c.trees; rest = map see c.rest }

  abbrev pub seen_outcome : Outcome L → Outcome W
  seen_outcome (going c) = going (seen_config c)
  seen_outcome (accepted t) = accepted (seen_tree see t)
  seen_outcome (failed c) = failed (seen_config c)
  seen_outcome stuck = stuck

  abbrev seen_popped : Option (Forest L × List (Tree L)) → Option (Forest W × List (Tree W))
  seen_popped None = None
  seen_popped (Some r) = Some (seen_forest see r.0, map (seen_tree see) r.1)

  abbrev seen_pair : Option (List L × List L) → Option (List W × List W)
  seen_pair None = None
  seen_pair (Some r) = Some (map see r.0, map see r.1)

  mutual
    yield_seen : (t : Tree L) → map see (yield t) ≡ yield (seen_tree see t)
    yield_seen (leaf x) = refl
    yield_seen (node p ts) = yields_seen ts

    yields_seen : (ts : Forest L) → map see (yields ts) ≡ yields (seen_forest see ts)
    yields_seen none = refl
    yields_seen (before t ts) = map-append see (yield t) (yields ts) ∙ ap (λ l. l ++ map see (yields ts)) (yield_seen t) ∙ ap (λ l. yield (seen_tree see t) ++ l) (yields_seen ts)

  stack_seen : (ts : List (Tree L)) → map see (stack_yield ts) ≡ stack_yield (map (seen_tree see) ts)
  stack_seen [] = refl
  stack_seen (t ∷ ts) = map-append see (stack_yield ts) (yield t) ∙ ap (λ l. l ++ map see (yield t)) (stack_seen ts) ∙ ap (λ l. stack_yield (map (seen_tree see) ts) ++ l) (yield_seen t)

  -- what a configuration has consumed and has left
  pub whole_seen : (c : Config L) (xs : List L) → xs ≡ stack_yield c.trees ++ c.rest → map see xs ≡ stack_yield (map (seen_tree see) c.trees) ++ map see c.rest
  whole_seen c xs e = ap (map see) e ∙ map-append see (stack_yield c.trees) c.rest ∙ ap (λ l. l ++ map see c.rest) (stack_seen c.trees)

  -- ---- steps

  module _ (G : Grammar) (a : Automaton) (tok : W → ℕ) where
    abbrev by_seen : L → ℕ
    by_seen x = tok (see x)

    next_seen : (e : ℕ) (xs : List L) → next_or tok e (map see xs) ≡ next_or by_seen e xs
    next_seen e [] = refl
    next_seen e (x ∷ xs) = refl

    pop_seen : (n : ℕ) (ts : List (Tree L)) (f : Forest L) → pop n (map (seen_tree see) ts) (seen_forest see f) ≡ seen_popped (pop n ts f)
    pop_seen zero ts f = refl
    pop_seen (suc n) [] f = refl
    pop_seen (suc n) (t ∷ ts) f = pop_seen n ts (before t f)

    shift_seen : (q : ℕ) (ss : List ℕ) (ts : List (Tree L)) (xs : List L) → after_shift q ss (map (seen_tree see) ts) (map see xs) ≡ seen_outcome (after_shift q ss ts xs)
    shift_seen q ss ts [] = refl
    shift_seen q ss ts (x ∷ xs) = refl

    goto_seen : (o : Option ℕ) (ss : List ℕ) (ts : List (Tree L)) (xs : List L) → after_goto o ss (map (seen_tree see) ts) (map see xs) ≡ seen_outcome (after_goto o ss ts xs)
    goto_seen None ss ts xs = refl
    goto_seen (Some q) ss ts xs = refl

    popped_seen : (p : ℕ) (ss : List ℕ) (o : Option (Forest L × List (Tree L))) (xs : List L) → after_pop G a p ss (seen_popped o) (map see xs) ≡ seen_outcome (after_pop G a p ss o xs)
    popped_seen p [] o xs = refl
    popped_seen p (s ∷ ss) None xs = refl
    popped_seen p (s ∷ ss) (Some (f, ts)) xs = goto_seen (a.goto s (head_of G p)) (s ∷ ss) (node p f ∷ ts) xs

    accept_seen : (ts : List (Tree L)) → after_accept (map (seen_tree see) ts) ≡ seen_outcome (after_accept ts)
    accept_seen [] = refl
    accept_seen (t ∷ []) = refl
    accept_seen (t ∷ u ∷ ts) = refl

    act_seen : (x : Action) (ss : List ℕ) (ts : List (Tree L)) (xs : List L) → act G a x ss (map (seen_tree see) ts) (map see xs) ≡ seen_outcome (act G a x ss ts xs)
    act_seen (shift q) ss ts xs = shift_seen q ss ts xs
    act_seen (reduce p) ss ts xs =
        let n = length (body_of G p) in
        ap (λ o. after_pop G a p (drop n ss) o (map see xs)) (pop_seen n ts none) ∙ popped_seen p (drop n ss) (pop n ts none) xs
    act_seen accept ss ts xs = accept_seen ts
    act_seen error ss ts xs = refl

    step_on_seen : (ss : List ℕ) (ts : List (Tree L)) (xs : List L) → step_on G a tok ss (map (seen_tree see) ts) (map see xs) ≡ seen_outcome (step_on G a by_seen ss ts xs)
    step_on_seen [] ts xs = refl
    step_on_seen (s ∷ ss) ts xs =
        ap (λ n. act G a (a.action s n) (s ∷ ss) (map (seen_tree see) ts) (map see xs)) (next_seen (end_token G) xs) ∙
        act_seen (a.action s (next_or by_seen (end_token G) xs)) (s ∷ ss) ts xs

    step_seen : (c : Config L) → step G a tok (seen_config c) ≡ seen_outcome (step G a by_seen c)
    step_seen c = step_on_seen c.states c.trees c.rest

    then_seen : (n : ℕ) → ((c : Config L) → run G a tok n (seen_config c) ≡ seen_outcome (run G a by_seen n c)) → (o : Outcome L) →
        then_run (seen_outcome o) (run G a tok n) ≡ seen_outcome (then_run o (run G a by_seen n))
    then_seen n by (going c) = by c
    then_seen n by (accepted t) = refl
    then_seen n by (failed c) = refl
    then_seen n by stuck = refl

    pub run_seen : (n : ℕ) (c : Config L) → run G a tok n (seen_config c) ≡ seen_outcome (run G a by_seen n c)
    run_seen zero c = refl
    run_seen (suc n) c = ap (λ o. then_run o (run G a tok n)) (step_seen c) ∙ then_seen n (run_seen n) (step G a by_seen c)

    -- ---- what a run leaves ends what it began with

    shift_ends : (q : ℕ) (ss : List ℕ) (ts : List (Tree L)) (xs : List L) (d : Config L) → after_shift q ss ts xs ≡ going d → Ends xs d.rest
    shift_ends q ss ts [] d h = cc
    shift_ends q ss ts (x ∷ xs) d h =
        let e : record { states = q ∷ ss; trees = leaf x ∷ ts; rest = xs } ≡ d = cc in
        ends_more x xs d.rest (ap (λ (c : Config L). c.rest) e)

    goto_ends : (o : Option ℕ) (ss : List ℕ) (ts : List (Tree L)) (xs : List L) (d : Config L) → after_goto o ss ts xs ≡ going d → Ends xs d.rest
    goto_ends None ss ts xs d h = cc
    goto_ends (Some q) ss ts xs d h =
        let e : record { states = q ∷ ss; trees = ts; rest = xs } ≡ d = cc in
        ends_all xs d.rest (ap (λ (c : Config L). c.rest) e)

    popped_ends : (p : ℕ) (ss : List ℕ) (o : Option (Forest L × List (Tree L))) (xs : List L) (d : Config L) → after_pop G a p ss o xs ≡ going d → Ends xs d.rest
    popped_ends p [] o xs d h = cc
    popped_ends p (s ∷ ss) None xs d h = cc
    popped_ends p (s ∷ ss) (Some (f, ts)) xs d h = goto_ends (a.goto s (head_of G p)) (s ∷ ss) (node p f ∷ ts) xs d h

    accept_ends : (ts : List (Tree L)) (xs : List L) (d : Config L) → after_accept ts ≡ going d → Ends xs d.rest
    accept_ends [] xs d h = cc
    accept_ends (t ∷ []) xs d h = cc
    accept_ends (t ∷ u ∷ ts) xs d h = cc

    act_ends : (x : Action) (ss : List ℕ) (ts : List (Tree L)) (xs : List L) (d : Config L) → act G a x ss ts xs ≡ going d → Ends xs d.rest
    act_ends (shift q) ss ts xs d h = shift_ends q ss ts xs d h
    act_ends (reduce p) ss ts xs d h = popped_ends p (drop (length (body_of G p)) ss) (pop (length (body_of G p)) ts none) xs d h
    act_ends accept ss ts xs d h = accept_ends ts xs d h
    act_ends error ss ts xs d h = cc

    step_ends : (ss : List ℕ) (ts : List (Tree L)) (xs : List L) (d : Config L) → step_on G a by_seen ss ts xs ≡ going d → Ends xs d.rest
    step_ends [] ts xs d h = cc
    step_ends (s ∷ ss) ts xs d h = act_ends (a.action s (next_or by_seen (end_token G) xs)) (s ∷ ss) ts xs d h

    then_ends : (n : ℕ) → ((c d : Config L) → run G a by_seen n c ≡ going d → Ends c.rest d.rest) → (xs : List L) (o : Outcome L) (d : Config L) →
        ((c : Config L) → o ≡ going c → Ends xs c.rest) → then_run o (run G a by_seen n) ≡ going d → Ends xs d.rest
    then_ends n by xs (going c) d first h = ends_on xs c.rest d.rest (first c refl) (by c d h)
    then_ends n by xs (accepted t) d first h = cc
    then_ends n by xs (failed c) d first h = cc
    then_ends n by xs stuck d first h = cc

    run_ends : (n : ℕ) (c d : Config L) → run G a by_seen n c ≡ going d → Ends c.rest d.rest
    run_ends zero c d h =
        let e : c ≡ d = cc in
        ends_all c.rest d.rest (ap (λ (k : Config L). k.rest) e)
    run_ends (suc n) c d h = then_ends n (run_ends n) c.rest (step G a by_seen c) d (λ k e. step_ends c.states c.trees c.rest k e) h

    -- ---- and back

    accepted_back : (o : Outcome L) (t : Tree W) → seen_outcome o ≡ accepted t → (u : Tree L) × (o ≡ accepted u)
    accepted_back (going c) t h = cc
    accepted_back (accepted u) t h = (u, refl)
    accepted_back (failed c) t h = cc
    accepted_back stuck t h = cc

    going_back : (o : Outcome L) (c : Config W) → seen_outcome o ≡ going c → (d : Config L) × (o ≡ going d) × (seen_config d ≡ c)
    going_back (going d) c h =
        let e : seen_config d ≡ c = cc in
        (d, refl, e)
    going_back (accepted u) c h = cc
    going_back (failed d) c h = cc
    going_back stuck c h = cc

    past_seen : (d : Config L) (put left : List L) → GetsPast G a by_seen d put left → GetsPast G a tok (seen_config d) (map see put) (map see left)
    past_seen d put [] h =
        let on = ap (λ l. run G a tok h.0 (with_rest (seen_config d) l)) (sym (map-append see put [])) in
        (h.0, seen_tree see h.1, on ∙ run_seen h.0 (with_rest d (put ++ [])) ∙ ap seen_outcome h.2)
    past_seen d put (y ∷ ys) h =
        let on = ap (λ l. run G a tok h.0 (with_rest (seen_config d) l)) (sym (map-append see put (y ∷ ys))) in
        (h.0, seen_config h.1, on ∙ run_seen h.0 (with_rest d (put ++ y ∷ ys)) ∙ ap seen_outcome h.2, ap (map see) h.3)

    past_back : (d : Config L) (put left : List L) → GetsPast G a tok (seen_config d) (map see put) (map see left) → GetsPast G a by_seen d put left
    past_back d put [] h =
        let on = ap (λ l. run G a tok h.0 (with_rest (seen_config d) l)) (map-append see put []) in
        let back = accepted_back (run G a by_seen h.0 (with_rest d (put ++ []))) h.1 (sym (run_seen h.0 (with_rest d (put ++ []))) ∙ on ∙ h.2) in
        (h.0, back.0, back.1)
    past_back d put (y ∷ ys) h =
        let c = with_rest d (put ++ y ∷ ys) in
        let on = ap (λ l. run G a tok h.0 (with_rest (seen_config d) l)) (map-append see put (y ∷ ys)) in
        let back = going_back (run G a by_seen h.0 c) h.1 (sym (run_seen h.0 c) ∙ on ∙ h.2) in
        let ends = run_ends h.0 c back.0 back.1 in
        let seen : map see back.0.rest ≡ map see ys = ap (λ (k : Config W). k.rest) back.2 ∙ h.3 in
        let same : length back.0.rest ≡ length ys = omega (arith, length-map back.0.rest see, length-map ys see, ap length seen) in
        (h.0, back.0, back.1, same_end ends.front (put ++ y ∷ []) back.0.rest ys (sym ends.whole ∙ sym (append_assoc put (y ∷ []) ys)) same)

    -- ---- repairs

    abbrev NoEnd : {X : Type 0} → (X → ℕ) → List X → Type 0
    NoEnd {X} t xs = AllByRecursion (λ (y : X). t y ≢ end_token G) xs

    no_end_seen : (xs : List L) → NoEnd by_seen xs → NoEnd tok (map see xs)
    no_end_seen [] h = tt
    no_end_seen (x ∷ xs) h = (h.0, no_end_seen xs h.1)

    no_end_back : (xs : List L) → NoEnd tok (map see xs) → NoEnd by_seen xs
    no_end_back [] h = tt
    no_end_back (x ∷ xs) h = (h.0, no_end_back xs h.1)

    module _ (top : ℕ) (make : ℕ → List L → L) (make_seen : ℕ → List W → W) (made : (t : ℕ) (xs : List L) → t ≤ top → see (make t xs) ≡ make_seen t (map see xs)) where
      abbrev pub Fits : List Edit → Type 0
      Fits = AllByRecursion (InsertsWithin top)

      with_seen : (x : L) (o : Option (List L × List L)) → with_first (see x) (seen_pair o) ≡ seen_pair (with_first x o)
      with_seen x None = refl
      with_seen x (Some r) = refl

      apply_seen : (es : List Edit) → Fits es → (xs : List L) → apply make_seen es (map see xs) ≡ seen_pair (apply make es xs)
      apply_seen [] fits xs = refl
      apply_seen (insert t ∷ es) fits xs =
          ap (λ y. with_first y (apply make_seen es (map see xs))) (sym (made t xs fits.0)) ∙ ap (with_first (see (make t xs))) (apply_seen es fits.1 xs) ∙
          with_seen (make t xs) (apply make es xs)
      apply_seen (delete ∷ es) fits [] = refl
      apply_seen (delete ∷ es) fits (x ∷ xs) = apply_seen es fits.1 xs
      apply_seen (keep ∷ es) fits [] = refl
      apply_seen (keep ∷ es) fits (x ∷ xs) = ap (with_first (see x)) (apply_seen es fits.1 xs) ∙ with_seen x (apply make es xs)

      takes_seen : (d : Config L) (es : List Edit) → Fits es → Takes G a by_seen make d es → Takes G a tok make_seen (seen_config d) es
      takes_seen d es fits k = record {
        put = map see k.put;
        left = map see k.left;
        applied = apply_seen es fits d.rest ∙ ap seen_pair k.applied;
        no_end = no_end_seen k.put k.no_end;
        gets_past = past_seen d k.put k.left k.gets_past;
      }

      takes_back : (d : Config L) (es : List Edit) → Fits es → Takes G a tok make_seen (seen_config d) es → Takes G a by_seen make d es
      takes_back d es fits k = by (apply make es d.rest) refl where
        by : (o : Option (List L × List L)) → apply make es d.rest ≡ o → Takes G a by_seen make d es
        by None e =
            absurd (not_some (k.put, k.left) (sym (apply_seen es fits d.rest ∙ ap seen_pair e) ∙ k.applied))
        by (Some r) e =
            let same = some_same (map see r.0, map see r.1) (k.put, k.left) (sym (apply_seen es fits d.rest ∙ ap seen_pair e) ∙ k.applied) in
            let put : k.put ≡ map see r.0 = sym (ap (λ (x : List W × List W). x.0) same) in
            let left : k.left ≡ map see r.1 = sym (ap (λ (x : List W × List W). x.1) same) in
            let past = subst (λ l. GetsPast G a tok (seen_config d) (map see r.0) l) left (subst (λ l. GetsPast G a tok (seen_config d) l k.left) put k.gets_past) in
            record { put = r.0; left = r.1; applied = e; no_end = no_end_back r.0 (subst (NoEnd tok) put k.no_end); gets_past = past_back d r.0 r.1 past }

      refused_seen : (d : Config L) (offered : List (List Edit)) → AllByRecursion Fits offered → AllByRecursion (λ e. Takes G a by_seen make d e → ⊥) offered →
          AllByRecursion (λ e. Takes G a tok make_seen (seen_config d) e → ⊥) offered
      refused_seen d [] fits h = tt
      refused_seen d (es ∷ offered) fits h = (λ k. h.0 (takes_back d es fits.0 k), refused_seen d offered fits.1 h.1)

      pub filtered_seen : (d : Config L) {offered repairs : List (List Edit)} → AllByRecursion Fits offered → Filtered (Takes G a by_seen make d) offered repairs →
          Filtered (Takes G a tok make_seen (seen_config d)) offered repairs
      filtered_seen d fits Filtered.none = Filtered.none
      filtered_seen d fits (Filtered.kept {x} k h) = Filtered.kept (takes_seen d x fits.0 k) (filtered_seen d fits.1 h)
      filtered_seen d fits (Filtered.dropped {x} k h) = Filtered.dropped (λ q. k (takes_back d x fits.0 q)) (filtered_seen d fits.1 h)

      front_fits : (xs ys : List (List Edit)) → AllByRecursion Fits (xs ++ ys) → AllByRecursion Fits xs × AllByRecursion Fits ys
      front_fits [] ys h = (tt, h)
      front_fits (x ∷ xs) ys h =
          let both = front_fits xs ys h.1 in
          ((h.0, both.0), both.1)

      first_seen : (d : Config L) (offered : List (List Edit)) (es : List Edit) → AllByRecursion Fits offered → IsFirstTaken G a by_seen make d offered es →
          IsFirstTaken G a tok make_seen (seen_config d) offered es
      first_seen d offered es fits first =
          let parts = front_fits first.earlier (es ∷ first.later) (subst (AllByRecursion Fits) first.is_offered fits) in
          record {
            earlier = first.earlier;
            later = first.later;
            is_offered = first.is_offered;
            are_refused = refused_seen d first.earlier parts.0 first.are_refused;
            takes = takes_seen d es parts.1.0 first.takes;
          }

      pub parses_seen : {c : Config L} {handed : List (List (List Edit))} {r : Option (Tree L)} {errors : List (Config L)} {lexemes : List L} →
          AllByRecursion (AllByRecursion Fits) handed → ParsesWith L G a by_seen make c handed r errors lexemes →
          ParsesWith W G a tok make_seen (seen_config c) handed (option_map (seen_tree see) r) (map seen_config errors) (map see lexemes)
      unfolding first_seen takes_seen
      parses_seen {c} {handed} {r} {errors} {lexemes} fits (ParsesWith.accepts n t h z i j k) =
          ParsesWith.accepts n (seen_tree see t) (run_seen n c ∙ ap seen_outcome h) z (ap (option_map (seen_tree see)) i) (ap (map seen_config) j) (whole_seen c lexemes k)
      parses_seen {c} {handed} {r} {errors} {lexemes} fits (ParsesWith.gives_up n d offered h refused z i j k) =
          let these : AllByRecursion (AllByRecursion Fits) (offered ∷ []) = subst (AllByRecursion (AllByRecursion Fits)) z fits in
          ParsesWith.gives_up n (seen_config d) offered (run_seen n c ∙ ap seen_outcome h) (refused_seen d offered these.0 refused) z (ap (option_map (seen_tree see)) i) (ap (map seen_config) j)
          (whole_seen d lexemes k)
      parses_seen {c} {handed} {r} {errors} {lexemes} fits (ParsesWith.repairs n d offered es further more h first z j p) =
          let these : AllByRecursion (AllByRecursion Fits) (offered ∷ further) = subst (AllByRecursion (AllByRecursion Fits)) z fits in
          let begun = first_seen d offered es these.0 first in
          let P : List W → Type 0 = λ l. ParsesWith W G a tok make_seen (with_rest (seen_config d) l) further (option_map (seen_tree see) r) (map seen_config more) (map see lexemes) in
          let rest : P (map see (first.takes.put ++ first.takes.left)) = parses_seen these.1 p in
          ParsesWith.repairs n (seen_config d) offered es further (map seen_config more) (run_seen n c ∙ ap seen_outcome h) begun z (ap (map seen_config) j)
          (subst P (map-append see first.takes.put first.takes.left) rest)
