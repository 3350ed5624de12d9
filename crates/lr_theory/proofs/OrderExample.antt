-- The graph of `^: S; S: a c | b d;`: six states, numbered by the steps of the building.
use Rattle.std.proofs.Common.{◌≡◌, ℕ, zero, suc, ◌<◌, true, false, List, [], ◌∷◌, Some, None, refl, sym, ap, ◌∙◌, subst, arith}
use Rattle.cfg_theory.specs.Grammar.{Sym, rule, token, WellFormed, IsOf, IsNext, InRange, head_of, body_of}
use Rattle.cfg_theory.specs.Derivation.{Derives, IsFirst, Nullable}
use Rattle.lr_theory.specs.Canonical.{from_dot}
use Rattle.lr_theory.specs.Itemset.{Is, ItemSet, HasItem, HasLook, entry_at, Closure, ClosureLook, Goto, GotoLook, StartItem, StartLook}
use Rattle.lr_theory.specs.Graph.{Graph, Leads}
use Rattle.lr_theory.specs.Building.{Building, Place, Handled, symbols, with_edge, Step, Begins, Reached, Built, IsGraph}
use Rattle.lr_theory.specs.SmallCases.{paired, at_dot, paired_graph, StatesAreInOrder}
use Rattle.lr_theory.proofs.Literal.{some_same, none_some, each_item, each_look, own_closure, is_closure, goto_set, goto_is, none_moves, no_first, entry_here, stays_out, idle_before, none_left, unpruned}

-- the productions with their rules, and the symbols with their dots
of_each : (P : ℕ → ℕ → Type 0) → P 0 1 → P 1 1 → P 2 0 → (p A : ℕ) → IsOf paired p A → P p A
unfolding head_of
of_each P x y z zero A o = subst (P 0) o.head x
of_each P x y z (suc zero) A o = subst (P 1) o.head y
of_each P x y z (suc (suc zero)) A o = subst (P 2) o.head z
of_each P x y z (suc (suc (suc p))) A o = let lt : suc (suc (suc p)) < 3 = o.in_range in absurd (omega arith)

next_each : (P : ℕ → ℕ → Sym → Type 0) → P 0 0 (token 0) → P 0 1 (token 2) → P 1 0 (token 1) → P 1 1 (token 3) → P 2 0 (rule 1) → (p d : ℕ) (X : Sym) → IsNext paired p d X → P p d X
unfolding body_of
next_each P a b c d e zero zero X n = subst (P 0 0) (some_same (token 0) X n.at) a
next_each P a b c d e zero (suc zero) X n = subst (P 0 1) (some_same (token 2) X n.at) b
next_each P a b c d e zero (suc (suc i)) X n = absurd (none_some X n.at)
next_each P a b c d e (suc zero) zero X n = subst (P 1 0) (some_same (token 1) X n.at) c
next_each P a b c d e (suc zero) (suc zero) X n = subst (P 1 1) (some_same (token 3) X n.at) d
next_each P a b c d e (suc zero) (suc (suc i)) X n = absurd (none_some X n.at)
next_each P a b c d e (suc (suc zero)) zero X n = subst (P 2 0) (some_same (rule 1) X n.at) e
next_each P a b c d e (suc (suc zero)) (suc i) X n = absurd (none_some X n.at)
next_each P a b c d e (suc (suc (suc p))) i X n = absurd (none_some X n.at)

of0 : IsOf paired 0 1
unfolding head_of
of0 = record { in_range = omega arith; head = refl }

of1 : IsOf paired 1 1
unfolding head_of
of1 = record { in_range = omega arith; head = refl }

of2 : IsOf paired 2 0
unfolding head_of
of2 = record { in_range = omega arith; head = refl }

next00 : IsNext paired 0 0 (token 0)
unfolding body_of
next00 = record { at = refl }

next01 : IsNext paired 0 1 (token 2)
unfolding body_of
next01 = record { at = refl }

next10 : IsNext paired 1 0 (token 1)
unfolding body_of
next10 = record { at = refl }

next11 : IsNext paired 1 1 (token 3)
unfolding body_of
next11 = record { at = refl }

next20 : IsNext paired 2 0 (rule 1)
unfolding body_of
next20 = record { at = refl }

body2 : body_of paired 2 ≡ rule 1 ∷ []
unfolding body_of
body2 = refl

good : WellFormed paired
good = record {
  start_of = of2;
  start_alone = λ p o. of_each (λ p A. A ≡ 0 → p ≡ 2) (λ e. absurd (omega arith)) (λ e. absurd (omega arith)) (λ e. refl) p 0 o refl;
  start_rule = (1, body2);
  no_start = λ p d n. next_each (λ p d X. X ≡ rule 0 → ⊥) (λ e. cc) (λ e. cc) (λ e. cc) (λ e. cc) (λ e. cc) p d (rule 0) n refl;
  no_end = λ p d t e n. next_each (λ p d X. X ≡ token 4 → ⊥) (λ e. cc) (λ e. cc) (λ e. cc) (λ e. cc) (λ e. cc) p d (token t) n (ap token e);
  heads = of_each (λ p A. A < 2) (omega arith) (omega arith) (omega arith);
  symbols = next_each (λ p d X. InRange paired X) (omega arith) (omega arith) (omega arith) (omega arith) (omega arith);
  end_token = omega arith;
}

-- a rule after a dot
before_rule : (p d A : ℕ) → IsNext paired p d (rule A) → (p ≡ 2) × (d ≡ 0) × (A ≡ 1)
before_rule p d A n = next_each (λ p d X. X ≡ rule A → (p ≡ 2) × (d ≡ 0) × (A ≡ 1)) (λ e. cc) (λ e. cc) (λ e. cc) (λ e. cc) (λ e. (refl, refl, (let x : A ≡ 1 = cc in x))) p d (rule A) n refl

behind : from_dot paired 2 1 ≡ []
unfolding body_of
behind = refl

item_one : (p d : ℕ) → HasItem (at_dot p d) p d
item_one p d = record { lookaheads = false ∷ false ∷ false ∷ false ∷ true ∷ []; at = entry_here (record { production = p; dot = d; lookaheads = false ∷ false ∷ false ∷ false ∷ true ∷ [] }) [] }

look_one : (p d : ℕ) → HasLook (at_dot p d) p d 4
look_one p d = record { lookaheads = false ∷ false ∷ false ∷ false ∷ true ∷ []; at = entry_here (record { production = p; dot = d; lookaheads = false ∷ false ∷ false ∷ false ∷ true ∷ [] }) []; set = refl }

-- the start state's closure
abbrev closed0 : ItemSet
closed0 = record { production = 0; dot = 0; lookaheads = false ∷ false ∷ false ∷ false ∷ true ∷ [] } ∷ record { production = 1; dot = 0; lookaheads = false ∷ false ∷ false ∷ false ∷ true ∷ [] } ∷ at_dot 2 0

item00 : HasItem closed0 0 0
unfolding entry_at
item00 = record { lookaheads = _; at = refl }

item10 : HasItem closed0 1 0
unfolding entry_at
item10 = record { lookaheads = _; at = refl }

item20 : HasItem closed0 2 0
unfolding entry_at
item20 = record { lookaheads = _; at = refl }

look00 : HasLook closed0 0 0 4
unfolding entry_at
look00 = record { lookaheads = _; at = refl; set = refl }

look10 : HasLook closed0 1 0 4
unfolding entry_at
look10 = record { lookaheads = _; at = refl; set = refl }

look20 : HasLook closed0 2 0 4
unfolding entry_at
look20 = record { lookaheads = _; at = refl; set = refl }

abbrev Items0 : ℕ → ℕ → Type 0
Items0 = Closure paired (HasItem (at_dot 2 0))

abbrev Looks0 : ℕ → ℕ → ℕ → Type 0
Looks0 = ClosureLook paired (HasItem (at_dot 2 0)) (HasLook (at_dot 2 0))

nothing_first : (p d A t : ℕ) → IsNext paired p d (rule A) → IsFirst paired (from_dot paired p (suc d)) t → ⊥
nothing_first p d A t n f =
    let (x, y, _) = before_rule p d A n in
    no_first paired t (subst (λ a. IsFirst paired a t) (ap (λ p. from_dot paired p (suc d)) x ∙ ap (λ d. from_dot paired 2 (suc d)) y ∙ behind) f)

closed0_is : Is closed0 Items0 Looks0
closed0_is = is_closure paired (at_dot 2 0) closed0 (record {
  items = each_item (at_dot 2 0) (HasItem closed0) (item20, tt);
  looks = each_look (at_dot 2 0) (HasLook closed0) ((look20, tt), tt);
  opened = λ p d A q h n o. of_each (λ q A. A ≡ 1 → HasItem closed0 q 0) (λ e. item00) (λ e. item10) (λ e. item20) q A o (before_rule p d A n).2;
  firsts = λ p d A q t h n o f. absurd (nothing_first p d A t n f);
  passed = λ p d A q t l n o z. of_each (λ q A. A ≡ 1 → HasLook closed0 q 0 t) (λ e. on 0 t l look00) (λ e. on 1 t l look10) (λ e. on 2 t l look20) q A o (before_rule p d A n).2;
  items_back = each_item closed0 Items0 (Closure.opened (Closure.given (item_one 2 0)) next20 of0, (Closure.opened (Closure.given (item_one 2 0)) next20 of1, (Closure.given (item_one 2 0), tt)));
  looks_back = each_look closed0 Looks0 ((ClosureLook.passed (ClosureLook.given (look_one 2 0)) next20 of0 nullable, tt), ((ClosureLook.passed (ClosureLook.given (look_one 2 0)) next20 of1 nullable, tt), ((ClosureLook.given (look_one 2 0), tt), tt)));
})
  where
    nullable : Nullable paired (from_dot paired 2 1)
    nullable = subst (Nullable paired) (sym behind) Derives.none

    on : {p d : ℕ} (q t : ℕ) → HasLook closed0 p d t → HasLook closed0 q 0 4 → HasLook closed0 q 0 t
    on {p} {d} q t l h = subst (HasLook closed0 q 0) (sym (each_look closed0 (λ p d t. t ≡ 4) ((refl, tt), ((refl, tt), ((refl, tt), tt))) p d t l)) h

-- in the other states nothing is opened
alone : (p d : ℕ) → ((A : ℕ) → IsNext paired p d (rule A) → ⊥) → Is (at_dot p d) (Closure paired (HasItem (at_dot p d))) (ClosureLook paired (HasItem (at_dot p d)) (HasLook (at_dot p d)))
alone p d none = own_closure paired (at_dot p d) (λ q e A i n. each_item (at_dot p d) (λ q e. IsNext paired q e (rule A) → ⊥) (none A, tt) q e i n)

past_dot : (p d A : ℕ) → IsNext paired p (suc d) (rule A) → ⊥
past_dot p d A n = let y = (before_rule p (suc d) A n).1 in absurd (omega (arith, y))

closed_is : (p d : ℕ) → Is (at_dot p (suc d)) (Closure paired (HasItem (at_dot p (suc d)))) (ClosureLook paired (HasItem (at_dot p (suc d))) (HasLook (at_dot p (suc d))))
closed_is p d = alone p (suc d) (past_dot p d)

-- the start set
start_is : Is (at_dot 2 0) (StartItem paired) (StartLook paired)
start_is = record {
  items = λ p d. (there p d, each_item (at_dot 2 0) (StartItem paired) (StartItem.start refl, tt) p d);
  looks = λ p d t. (look_there p d t, each_look (at_dot 2 0) (StartLook paired) ((StartLook.start refl refl, tt), tt) p d t);
}
  where
    there : (p d : ℕ) → StartItem paired p d → HasItem (at_dot 2 0) p d
    there p _ (StartItem.start e) = subst (λ n. HasItem (at_dot 2 0) n 0) (sym e) (item_one 2 0)

    look_there : (p d t : ℕ) → StartLook paired p d t → HasLook (at_dot 2 0) p d t
    look_there p _ t (StartLook.start x y) = subst (λ n. HasLook (at_dot 2 0) n 0 t) (sym x) (subst (HasLook (at_dot 2 0) 2 0) (sym y) (look_one 2 0))

-- the graphs on the way
abbrev graph1 : Graph
graph1 = record { cores = at_dot 2 0 ∷ at_dot 2 1 ∷ []; start = 0; edge = with_edge (λ s X. None) 0 (rule 1) 1 }

abbrev graph2 : Graph
graph2 = record { cores = at_dot 2 0 ∷ at_dot 2 1 ∷ at_dot 0 1 ∷ []; start = 0; edge = with_edge (with_edge (λ s X. None) 0 (rule 1) 1) 0 (token 0) 2 }

abbrev graph3 : Graph
graph3 = record { cores = at_dot 2 0 ∷ at_dot 2 1 ∷ at_dot 0 1 ∷ at_dot 1 1 ∷ []; start = 0; edge = with_edge (with_edge (with_edge (λ s X. None) 0 (rule 1) 1) 0 (token 0) 2) 0 (token 1) 3 }

abbrev graph4 : Graph
graph4 = record {
  cores = at_dot 2 0 ∷ at_dot 2 1 ∷ at_dot 0 1 ∷ at_dot 1 1 ∷ at_dot 0 2 ∷ [];
  start = 0;
  edge = with_edge (with_edge (with_edge (with_edge (λ s X. None) 0 (rule 1) 1) 0 (token 0) 2) 0 (token 1) 3) 2 (token 2) 4;
}

abbrev begun : Building
begun = record { graph = record { cores = at_dot 2 0 ∷ []; start = 0; edge = λ s X. None }; todo = true ∷ [] }

abbrev done0 : Building
done0 = record { graph = graph3; todo = false ∷ true ∷ true ∷ true ∷ [] }

abbrev done1 : Building
done1 = record { graph = graph3; todo = false ∷ false ∷ true ∷ true ∷ [] }

abbrev done2 : Building
done2 = record { graph = graph4; todo = false ∷ false ∷ false ∷ true ∷ true ∷ [] }

abbrev done3 : Building
done3 = record { graph = paired_graph; todo = false ∷ false ∷ false ∷ false ∷ true ∷ true ∷ [] }

abbrev done4 : Building
done4 = record { graph = paired_graph; todo = false ∷ false ∷ false ∷ false ∷ false ∷ true ∷ [] }

abbrev ended : Building
ended = record { graph = paired_graph; todo = false ∷ false ∷ false ∷ false ∷ false ∷ false ∷ [] }

begins : Begins paired begun
begins = record { core = at_dot 2 0; cores = refl; is = start_is; start = refl; no_edge = λ s X. refl; todo = refl }

step0 : Step paired begun done0
unfolding symbols body_of entry_at
step0 = record {
  state = 0;
  todo = refl;
  first = λ r h. absurd (omega arith);
  handled = Handled.absent (none (rule 0) refl)
      (Handled.placed 2 0 (Closure.given (item_one 2 0)) next20 (Place.added (at_dot 2 1) (stays_out 1 begun.graph (at_dot 2 1) refl _ _ to_rule) to_rule)
      (Handled.placed 0 0 (Closure.opened (Closure.given (item_one 2 0)) next20 of0) next00 (Place.added (at_dot 0 1) (stays_out 2 graph1 (at_dot 0 1) refl _ _ to_a) to_a)
      (Handled.placed 1 0 (Closure.opened (Closure.given (item_one 2 0)) next20 of1) next10 (Place.added (at_dot 1 1) (stays_out 3 graph2 (at_dot 1 1) refl _ _ to_b) to_b)
      (Handled.absent (none (token 2) refl) (Handled.absent (none (token 3) refl) (Handled.absent (none (token 4) refl) Handled.done))))));
}
  where
    none : (X : Sym) → goto_set paired closed0 X ≡ [] → (p d : ℕ) → Items0 p d → IsNext paired p d X → ⊥
    none X = none_moves paired X Items0 Looks0 closed0 closed0_is

    to_rule : Is (at_dot 2 1) (Goto paired Items0 (rule 1)) (GotoLook paired Looks0 (rule 1))
    to_rule = goto_is paired (rule 1) Items0 Looks0 closed0 closed0_is

    to_a : Is (at_dot 0 1) (Goto paired Items0 (token 0)) (GotoLook paired Looks0 (token 0))
    to_a = goto_is paired (token 0) Items0 Looks0 closed0 closed0_is

    to_b : Is (at_dot 1 1) (Goto paired Items0 (token 1)) (GotoLook paired Looks0 (token 1))
    to_b = goto_is paired (token 1) Items0 Looks0 closed0 closed0_is

-- a state past a dot moves over no symbol that its goto is empty on
none_past : (p d : ℕ) (X : Sym) → goto_set paired (at_dot p (suc d)) X ≡ [] → (q e : ℕ) → Closure paired (HasItem (at_dot p (suc d))) q e → IsNext paired q e X → ⊥
none_past p d X = none_moves paired X (Closure paired (HasItem (at_dot p (suc d)))) (ClosureLook paired (HasItem (at_dot p (suc d))) (HasLook (at_dot p (suc d)))) (at_dot p (suc d)) (closed_is p d)

step1 : Step paired done0 done1
unfolding symbols body_of
step1 = record {
  state = 1;
  todo = refl;
  first = idle_before 1 done0 refl;
  handled = Handled.absent (none_past 2 0 (rule 0) refl) (Handled.absent (none_past 2 0 (rule 1) refl) (Handled.absent (none_past 2 0 (token 0) refl) (Handled.absent (none_past 2 0 (token 1) refl)
      (Handled.absent (none_past 2 0 (token 2) refl) (Handled.absent (none_past 2 0 (token 3) refl) (Handled.absent (none_past 2 0 (token 4) refl) Handled.done))))));
}

step2 : Step paired done1 done2
unfolding symbols body_of entry_at
step2 = record {
  state = 2;
  todo = refl;
  first = idle_before 2 done1 refl;
  handled = Handled.absent (none_past 0 0 (rule 0) refl) (Handled.absent (none_past 0 0 (rule 1) refl) (Handled.absent (none_past 0 0 (token 0) refl) (Handled.absent (none_past 0 0 (token 1) refl)
      (Handled.placed 0 1 (Closure.given (item_one 0 1)) next01 (Place.added (at_dot 0 2) (stays_out 4 graph3 (at_dot 0 2) refl _ _ to_c) to_c)
      (Handled.absent (none_past 0 0 (token 3) refl) (Handled.absent (none_past 0 0 (token 4) refl) Handled.done))))));
}
  where
    to_c : Is (at_dot 0 2) (Goto paired (Closure paired (HasItem (at_dot 0 1))) (token 2)) (GotoLook paired (ClosureLook paired (HasItem (at_dot 0 1)) (HasLook (at_dot 0 1))) (token 2))
    to_c = goto_is paired (token 2) (Closure paired (HasItem (at_dot 0 1))) (ClosureLook paired (HasItem (at_dot 0 1)) (HasLook (at_dot 0 1))) (at_dot 0 1) (closed_is 0 0)

step3 : Step paired done2 done3
unfolding symbols body_of entry_at
step3 = record {
  state = 3;
  todo = refl;
  first = idle_before 3 done2 refl;
  handled = Handled.absent (none_past 1 0 (rule 0) refl) (Handled.absent (none_past 1 0 (rule 1) refl) (Handled.absent (none_past 1 0 (token 0) refl) (Handled.absent (none_past 1 0 (token 1) refl)
      (Handled.absent (none_past 1 0 (token 2) refl) (Handled.placed 1 1 (Closure.given (item_one 1 1)) next11 (Place.added (at_dot 1 2) (stays_out 5 graph4 (at_dot 1 2) refl _ _ to_d) to_d)
      (Handled.absent (none_past 1 0 (token 4) refl) Handled.done))))));
}
  where
    to_d : Is (at_dot 1 2) (Goto paired (Closure paired (HasItem (at_dot 1 1))) (token 3)) (GotoLook paired (ClosureLook paired (HasItem (at_dot 1 1)) (HasLook (at_dot 1 1))) (token 3))
    to_d = goto_is paired (token 3) (Closure paired (HasItem (at_dot 1 1))) (ClosureLook paired (HasItem (at_dot 1 1)) (HasLook (at_dot 1 1))) (at_dot 1 1) (closed_is 1 0)

step4 : Step paired done3 done4
unfolding symbols body_of
step4 = record {
  state = 4;
  todo = refl;
  first = idle_before 4 done3 refl;
  handled = Handled.absent (none_past 0 1 (rule 0) refl) (Handled.absent (none_past 0 1 (rule 1) refl) (Handled.absent (none_past 0 1 (token 0) refl) (Handled.absent (none_past 0 1 (token 1) refl)
      (Handled.absent (none_past 0 1 (token 2) refl) (Handled.absent (none_past 0 1 (token 3) refl) (Handled.absent (none_past 0 1 (token 4) refl) Handled.done))))));
}

step5 : Step paired done4 ended
unfolding symbols body_of
step5 = record {
  state = 5;
  todo = refl;
  first = idle_before 5 done4 refl;
  handled = Handled.absent (none_past 1 1 (rule 0) refl) (Handled.absent (none_past 1 1 (rule 1) refl) (Handled.absent (none_past 1 1 (token 0) refl) (Handled.absent (none_past 1 1 (token 1) refl)
      (Handled.absent (none_past 1 1 (token 2) refl) (Handled.absent (none_past 1 1 (token 3) refl) (Handled.absent (none_past 1 1 (token 4) refl) Handled.done))))));
}

built : Built paired ended
built = record { reached = Reached.step (Reached.step (Reached.step (Reached.step (Reached.step (Reached.step (Reached.begin begins) step0) step1) step2) step3) step4) step5; nothing_left = none_left ended refl }

is_graph : IsGraph paired paired_graph
unfolding with_edge
is_graph = unpruned paired good ended built led_to
  where
    to_rule : paired_graph.edge 0 (rule 1) ≡ Some 1
    to_rule = refl

    to_a : paired_graph.edge 0 (token 0) ≡ Some 2
    to_a = refl

    to_b : paired_graph.edge 0 (token 1) ≡ Some 3
    to_b = refl

    to_c : paired_graph.edge 2 (token 2) ≡ Some 4
    to_c = refl

    to_d : paired_graph.edge 3 (token 3) ≡ Some 5
    to_d = refl

    led_to : (s : ℕ) → s < 6 → (w : List Sym) × Leads paired_graph w s
    led_to zero h = ([], Leads.none refl)
    led_to (suc zero) h = (rule 1 ∷ [], Leads.on (Leads.none refl) to_rule)
    led_to (suc (suc zero)) h = (token 0 ∷ [], Leads.on (Leads.none refl) to_a)
    led_to (suc (suc (suc zero))) h = (token 1 ∷ [], Leads.on (Leads.none refl) to_b)
    led_to (suc (suc (suc (suc zero)))) h = (token 2 ∷ token 0 ∷ [], Leads.on (Leads.on (Leads.none refl) to_a) to_c)
    led_to (suc (suc (suc (suc (suc zero))))) h = (token 3 ∷ token 1 ∷ [], Leads.on (Leads.on (Leads.none refl) to_b) to_d)
    led_to (suc (suc (suc (suc (suc (suc s)))))) h = absurd (omega arith)

pub states_are_in_order : StatesAreInOrder
unfolding with_edge
states_are_in_order = record {
  well_formed = good;
  is_graph = is_graph;
  after_a = refl;
  after_b = refl;
  after_a_c = refl;
  after_b_d = refl;
}
