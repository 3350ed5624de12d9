-- The graph of `^: S; S: x;`: three states, by the steps of the building.
use Rattle.std.proofs.Common.{◌≡◌, ℕ, zero, suc, ◌<◌, true, false, List, [], ◌∷◌, Some, None, refl, sym, ap, ◌∙◌, subst, arith}
use Rattle.cfg_theory.specs.Grammar.{Sym, rule, token, WellFormed, IsOf, IsNext, InRange, head_of, body_of}
use Rattle.cfg_theory.specs.Derivation.{Derives, IsFirst, Nullable}
use Rattle.lr_theory.specs.Canonical.{from_dot}
use Rattle.lr_theory.specs.Itemset.{Is, ItemSet, HasItem, HasLook, entry_at, Closure, ClosureLook, Goto, GotoLook, StartItem, StartLook}
use Rattle.lr_theory.specs.Graph.{Leads}
use Rattle.lr_theory.specs.Building.{Building, Place, Handled, symbols, with_edge, Step, Begins, Reached, Built, IsGraph}
use Rattle.lr_theory.specs.SmallGrammars.{single, before_end, single_graph}
use Rattle.lr_theory.proofs.Literal.{some_same, none_some, each_item, each_look, own_closure, is_closure, goto_set, goto_is, none_moves, no_first, entry_here, stays_out, idle_before, none_left, unpruned}

-- the productions with their rules, and the symbols with their dots
pub of_each : (P : ℕ → ℕ → Type 0) → P 0 1 → P 1 0 → (p A : ℕ) → IsOf single p A → P p A
unfolding head_of
of_each P x y zero A o = subst (P 0) o.head x
of_each P x y (suc zero) A o = subst (P 1) o.head y
of_each P x y (suc (suc p)) A o = let lt : suc (suc p) < 2 = o.in_range in absurd (omega arith)

pub next_each : (P : ℕ → ℕ → Sym → Type 0) → P 0 0 (token 0) → P 1 0 (rule 1) → (p d : ℕ) (X : Sym) → IsNext single p d X → P p d X
unfolding body_of
next_each P x y zero zero X n = subst (P 0 0) (some_same (token 0) X n.at) x
next_each P x y zero (suc d) X n = absurd (none_some X n.at)
next_each P x y (suc zero) zero X n = subst (P 1 0) (some_same (rule 1) X n.at) y
next_each P x y (suc zero) (suc d) X n = absurd (none_some X n.at)
next_each P x y (suc (suc p)) d X n = absurd (none_some X n.at)

pub of0 : IsOf single 0 1
unfolding head_of
of0 = record { in_range = omega arith; head = refl }

of1 : IsOf single 1 0
unfolding head_of
of1 = record { in_range = omega arith; head = refl }

next0 : IsNext single 0 0 (token 0)
unfolding body_of
next0 = record { at = refl }

next1 : IsNext single 1 0 (rule 1)
unfolding body_of
next1 = record { at = refl }

pub body0 : body_of single 0 ≡ token 0 ∷ []
unfolding body_of
body0 = refl

pub body1 : body_of single 1 ≡ rule 1 ∷ []
unfolding body_of
body1 = refl

pub good : WellFormed single
good = record {
  start_of = of1;
  start_alone = λ p o. of_each (λ p A. A ≡ 0 → p ≡ 1) (λ e. absurd (omega arith)) (λ e. refl) p 0 o refl;
  start_rule = (1, body1);
  no_start = λ p d n. next_each (λ p d X. X ≡ rule 0 → ⊥) (λ e. cc) (λ e. cc) p d (rule 0) n refl;
  no_end = λ p d t e n. next_each (λ p d X. X ≡ token 1 → ⊥) (λ e. cc) (λ e. cc) p d (token t) n (ap token e);
  heads = of_each (λ p A. A < 2) (omega arith) (omega arith);
  symbols = next_each (λ p d X. InRange single X) (omega arith) (omega arith);
  end_token = omega arith;
}

-- a rule after a dot
pub before_rule : (p d A : ℕ) → IsNext single p d (rule A) → (p ≡ 1) × (d ≡ 0) × (A ≡ 1)
before_rule p d A n = next_each (λ p d X. X ≡ rule A → (p ≡ 1) × (d ≡ 0) × (A ≡ 1)) (λ e. cc) (λ e. (refl, refl, (let x : A ≡ 1 = cc in x))) p d (rule A) n refl

of_second : (q A : ℕ) → IsOf single q A → A ≡ 1 → q ≡ 0
of_second q A o = of_each (λ q A. A ≡ 1 → q ≡ 0) (λ e. refl) (λ e. absurd (omega arith)) q A o

behind : from_dot single 1 1 ≡ []
unfolding body_of
behind = refl

-- entries with the end token
abbrev pub one_entry : ℕ → ℕ → ItemSet
one_entry p d = before_end p d ∷ []

pub item_one : (p d : ℕ) → HasItem (one_entry p d) p d
item_one p d = record { lookaheads = false ∷ true ∷ []; at = entry_here (before_end p d) [] }

pub look_one : (p d : ℕ) → HasLook (one_entry p d) p d 1
look_one p d = record { lookaheads = false ∷ true ∷ []; at = entry_here (before_end p d) []; set = refl }

-- the start state's closure
abbrev pub closed0 : ItemSet
closed0 = before_end 0 0 ∷ before_end 1 0 ∷ []

item00 : HasItem closed0 0 0
unfolding entry_at
item00 = record { lookaheads = _; at = refl }

item10 : HasItem closed0 1 0
unfolding entry_at
item10 = record { lookaheads = _; at = refl }

look00 : HasLook closed0 0 0 1
unfolding entry_at
look00 = record { lookaheads = _; at = refl; set = refl }

look10 : HasLook closed0 1 0 1
unfolding entry_at
look10 = record { lookaheads = _; at = refl; set = refl }

abbrev Items0 : ℕ → ℕ → Type 0
Items0 = Closure single (HasItem (one_entry 1 0))

abbrev Looks0 : ℕ → ℕ → ℕ → Type 0
Looks0 = ClosureLook single (HasItem (one_entry 1 0)) (HasLook (one_entry 1 0))

nothing_first : (p d A t : ℕ) → IsNext single p d (rule A) → IsFirst single (from_dot single p (suc d)) t → ⊥
nothing_first p d A t n f =
    let (x, y, _) = before_rule p d A n in
    no_first single t (subst (λ a. IsFirst single a t) (ap (λ p. from_dot single p (suc d)) x ∙ ap (λ d. from_dot single 1 (suc d)) y ∙ behind) f)

pub closed0_is : Is closed0 Items0 Looks0
closed0_is = is_closure single (one_entry 1 0) closed0 (record {
  items = each_item (one_entry 1 0) (HasItem closed0) (item10, tt);
  looks = each_look (one_entry 1 0) (HasLook closed0) ((look10, tt), tt);
  opened = λ p d A q h n o. subst (λ q. HasItem closed0 q 0) (sym (of_second q A o (before_rule p d A n).2)) item00;
  firsts = λ p d A q t h n o f. absurd (nothing_first p d A t n f);
  passed = λ p d A q t l n o z. subst (λ q. HasLook closed0 q 0 t) (sym (of_second q A o (before_rule p d A n).2)) (subst (HasLook closed0 0 0) (sym (each_look closed0 (λ p d t. t ≡ 1) ((refl, tt), ((refl, tt), tt)) p d t l)) look00);
  items_back = each_item closed0 Items0 (Closure.opened (Closure.given (item_one 1 0)) next1 of0, (Closure.given (item_one 1 0), tt));
  looks_back = each_look closed0 Looks0 ((ClosureLook.passed (ClosureLook.given (look_one 1 0)) next1 of0 nullable, tt), ((ClosureLook.given (look_one 1 0), tt), tt));
})
  where
    nullable : Nullable single (from_dot single 1 1)
    nullable = subst (Nullable single) (sym behind) Derives.none

-- in the other states nothing is opened
pub closed1_is : Is (one_entry 1 1) (Closure single (HasItem (one_entry 1 1))) (ClosureLook single (HasItem (one_entry 1 1)) (HasLook (one_entry 1 1)))
closed1_is = own_closure single (one_entry 1 1) (λ p d A i n. let x = each_item (one_entry 1 1) (λ p d. d ≡ 1) (refl, tt) p d i in let y = (before_rule p d A n).1 in absurd (omega arith))

pub closed2_is : Is (one_entry 0 1) (Closure single (HasItem (one_entry 0 1))) (ClosureLook single (HasItem (one_entry 0 1)) (HasLook (one_entry 0 1)))
closed2_is = own_closure single (one_entry 0 1) (λ p d A i n. let x = each_item (one_entry 0 1) (λ p d. d ≡ 1) (refl, tt) p d i in let y = (before_rule p d A n).1 in absurd (omega arith))

-- the start set
start_is : Is (one_entry 1 0) (StartItem single) (StartLook single)
start_is = record {
  items = λ p d. (there p d, each_item (one_entry 1 0) (StartItem single) (StartItem.start refl, tt) p d);
  looks = λ p d t. (look_there p d t, each_look (one_entry 1 0) (StartLook single) ((StartLook.start refl refl, tt), tt) p d t);
}
  where
    there : (p d : ℕ) → StartItem single p d → HasItem (one_entry 1 0) p d
    there p _ (StartItem.start e) = subst (λ n. HasItem (one_entry 1 0) n 0) (sym e) (item_one 1 0)

    look_there : (p d t : ℕ) → StartLook single p d t → HasLook (one_entry 1 0) p d t
    look_there p _ t (StartLook.start x y) = subst (λ n. HasLook (one_entry 1 0) n 0 t) (sym x) (subst (HasLook (one_entry 1 0) 1 0) (sym y) (look_one 1 0))

abbrev begun : Building
begun = record { graph = record { cores = one_entry 1 0 ∷ []; start = 0; edge = λ s X. None }; todo = true ∷ [] }

abbrev first_done : Building
first_done = record { graph = single_graph; todo = false ∷ true ∷ true ∷ [] }

abbrev second_done : Building
second_done = record { graph = single_graph; todo = false ∷ false ∷ true ∷ [] }

abbrev ended : Building
ended = record { graph = single_graph; todo = false ∷ false ∷ false ∷ [] }

begins : Begins single begun
begins = record { core = one_entry 1 0; cores = refl; is = start_is; start = refl; no_edge = λ s X. refl; todo = refl }

first_step : Step single begun first_done
unfolding symbols body_of entry_at
first_step = record {
  state = 0;
  todo = refl;
  first = λ r h. absurd (omega arith);
  handled = Handled.absent (none_moves single (rule 0) Items0 Looks0 closed0 closed0_is refl)
      (Handled.placed 1 0 (Closure.given (item_one 1 0)) next1 (Place.added (one_entry 1 1) (stays_out 1 begun.graph (one_entry 1 1) refl _ _ to_rule) to_rule)
      (Handled.placed 0 0 (Closure.opened (Closure.given (item_one 1 0)) next1 of0) next0 (Place.added (one_entry 0 1) (stays_out 2 (record { cores = one_entry 1 0 ∷ one_entry 1 1 ∷ []; start = 0; edge = with_edge (λ s X. None) 0 (rule 1) 1 }) (one_entry 0 1) refl _ _ to_token) to_token)
      (Handled.absent (none_moves single (token 1) Items0 Looks0 closed0 closed0_is refl) Handled.done)));
}
  where
    to_rule : Is (one_entry 1 1) (Goto single Items0 (rule 1)) (GotoLook single Looks0 (rule 1))
    to_rule = goto_is single (rule 1) Items0 Looks0 closed0 closed0_is

    to_token : Is (one_entry 0 1) (Goto single Items0 (token 0)) (GotoLook single Looks0 (token 0))
    to_token = goto_is single (token 0) Items0 Looks0 closed0 closed0_is

second_step : Step single first_done second_done
unfolding symbols body_of
second_step = record {
  state = 1;
  todo = refl;
  first = idle_before 1 first_done refl;
  handled = Handled.absent (none (rule 0) refl) (Handled.absent (none (rule 1) refl) (Handled.absent (none (token 0) refl) (Handled.absent (none (token 1) refl) Handled.done)));
}
  where
    none : (X : Sym) → goto_set single (one_entry 1 1) X ≡ [] → (p d : ℕ) → Closure single (HasItem (one_entry 1 1)) p d → IsNext single p d X → ⊥
    none X = none_moves single X (Closure single (HasItem (one_entry 1 1))) (ClosureLook single (HasItem (one_entry 1 1)) (HasLook (one_entry 1 1))) (one_entry 1 1) closed1_is

third_step : Step single second_done ended
unfolding symbols body_of
third_step = record {
  state = 2;
  todo = refl;
  first = idle_before 2 second_done refl;
  handled = Handled.absent (none (rule 0) refl) (Handled.absent (none (rule 1) refl) (Handled.absent (none (token 0) refl) (Handled.absent (none (token 1) refl) Handled.done)));
}
  where
    none : (X : Sym) → goto_set single (one_entry 0 1) X ≡ [] → (p d : ℕ) → Closure single (HasItem (one_entry 0 1)) p d → IsNext single p d X → ⊥
    none X = none_moves single X (Closure single (HasItem (one_entry 0 1))) (ClosureLook single (HasItem (one_entry 0 1)) (HasLook (one_entry 0 1))) (one_entry 0 1) closed2_is

built : Built single ended
built = record { reached = Reached.step (Reached.step (Reached.step (Reached.begin begins) first_step) second_step) third_step; nothing_left = none_left ended refl }

pub is_graph : IsGraph single single_graph
unfolding with_edge
is_graph = unpruned single good ended built led_to
  where
    to_rule : single_graph.edge 0 (rule 1) ≡ Some 1
    to_rule = refl

    to_token : single_graph.edge 0 (token 0) ≡ Some 2
    to_token = refl

    led_to : (s : ℕ) → s < 3 → (w : List Sym) × Leads single_graph w s
    led_to zero h = ([], Leads.none refl)
    led_to (suc zero) h = (rule 1 ∷ [], Leads.on (Leads.none refl) to_rule)
    led_to (suc (suc zero)) h = (token 0 ∷ [], Leads.on (Leads.none refl) to_token)
    led_to (suc (suc (suc s))) h = absurd (omega arith)
