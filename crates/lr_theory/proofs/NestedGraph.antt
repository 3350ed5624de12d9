-- A state that grows: the graph of `S: a S b | ;`, by the steps of the building.
use Rattle.std.proofs.Common.{◌≡◌, ℕ, zero, suc, ◌<◌, ◌⊎◌, inl, inr, Bool, true, false, List, [], ◌∷◌, slice_get, Option, Some, None, refl, sym, ap, ◌∙◌, subst, arith}
use Rattle.cfg_theory.specs.Grammar.{Sym, rule, token, WellFormed, IsOf, IsNext, InRange, head_of, body_of}
use Rattle.cfg_theory.specs.Derivation.{Derives, IsFirst, Nullable}
use Rattle.lr_theory.specs.Canonical.{from_dot}
use Rattle.lr_theory.specs.Itemset.{Is, Entry, Items, Lookaheads, ItemSet, HasItem, HasLook, entry_at, Closure, ClosureLook, Goto, GotoLook, StartItem, StartLook, Union}
use Rattle.lr_theory.specs.Graph.{Graph, IsState, core_of, SomeLooks, Leads}
use Rattle.lr_theory.specs.Building.{Building, Joins, Place, Handled, StaysOut, symbols, with_edge, Step, Begins, Reached, Built, IsGraph}
use Rattle.lr_theory.specs.SmallGrammars.{nested, StateGrows}
use Rattle.lr_theory.proofs.Literal.{some_same, none_some, each_item, each_look, each_set, own_closure, is_closure, goto_set, goto_is, none_moves, no_first, first_of_token, not_nullable, entry_here, stays_out, idle_before, none_left, unpruned}

-- the productions with their rules, and the symbols with their dots
of_each : (P : ℕ → ℕ → Type 0) → P 0 1 → P 1 1 → P 2 0 → (p A : ℕ) → IsOf nested p A → P p A
unfolding head_of
of_each P x y z zero A o = subst (P 0) o.head x
of_each P x y z (suc zero) A o = subst (P 1) o.head y
of_each P x y z (suc (suc zero)) A o = subst (P 2) o.head z
of_each P x y z (suc (suc (suc p))) A o = let lt : suc (suc (suc p)) < 3 = o.in_range in absurd (omega arith)

next_each : (P : ℕ → ℕ → Sym → Type 0) → P 0 0 (token 0) → P 0 1 (rule 1) → P 0 2 (token 1) → P 2 0 (rule 1) → (p d : ℕ) (X : Sym) → IsNext nested p d X → P p d X
unfolding body_of
next_each P a b c e zero zero X n = subst (P 0 0) (some_same (token 0) X n.at) a
next_each P a b c e zero (suc zero) X n = subst (P 0 1) (some_same (rule 1) X n.at) b
next_each P a b c e zero (suc (suc zero)) X n = subst (P 0 2) (some_same (token 1) X n.at) c
next_each P a b c e zero (suc (suc (suc d))) X n = absurd (none_some X n.at)
next_each P a b c e (suc zero) d X n = absurd (none_some X n.at)
next_each P a b c e (suc (suc zero)) zero X n = subst (P 2 0) (some_same (rule 1) X n.at) e
next_each P a b c e (suc (suc zero)) (suc d) X n = absurd (none_some X n.at)
next_each P a b c e (suc (suc (suc p))) d X n = absurd (none_some X n.at)

of0 : IsOf nested 0 1
unfolding head_of
of0 = record { in_range = omega arith; head = refl }

of1 : IsOf nested 1 1
unfolding head_of
of1 = record { in_range = omega arith; head = refl }

of2 : IsOf nested 2 0
unfolding head_of
of2 = record { in_range = omega arith; head = refl }

next00 : IsNext nested 0 0 (token 0)
unfolding body_of
next00 = record { at = refl }

next01 : IsNext nested 0 1 (rule 1)
unfolding body_of
next01 = record { at = refl }

next02 : IsNext nested 0 2 (token 1)
unfolding body_of
next02 = record { at = refl }

next20 : IsNext nested 2 0 (rule 1)
unfolding body_of
next20 = record { at = refl }

good : WellFormed nested
unfolding body_of
good = record {
  start_of = of2;
  start_alone = λ p o. of_each (λ p A. A ≡ 0 → p ≡ 2) (λ e. absurd (omega arith)) (λ e. absurd (omega arith)) (λ e. refl) p 0 o refl;
  start_rule = (1, refl);
  no_start = λ p d n. next_each (λ p d X. X ≡ rule 0 → ⊥) (λ e. cc) (λ e. cc) (λ e. cc) (λ e. cc) p d (rule 0) n refl;
  no_end = λ p d t e n. next_each (λ p d X. X ≡ token 2 → ⊥) (λ e. cc) (λ e. cc) (λ e. cc) (λ e. cc) p d (token t) n (ap token e);
  heads = of_each (λ p A. A < 2) (omega arith) (omega arith) (omega arith);
  symbols = next_each (λ p d X. InRange nested X) (omega arith) (omega arith) (omega arith) (omega arith);
  end_token = omega arith;
}

-- a rule after a dot is S, in one of two items
at_rule : (P : ℕ → ℕ → Type 0) (p d A : ℕ) → IsNext nested p d (rule A) → ((p ≡ 0) → (d ≡ 1) → P 0 1) → ((p ≡ 2) → (d ≡ 0) → P 2 0) → P p d
at_rule P p d A n x y = next_each (λ p d X. X ≡ rule A → ((p ≡ 0) → (d ≡ 1) → P 0 1) → ((p ≡ 2) → (d ≡ 0) → P 2 0) → P p d)
    (λ e. cc) (λ e x y. x refl refl) (λ e. cc) (λ e x y. y refl refl) p d (rule A) n refl x y

is_second : (p d A : ℕ) → IsNext nested p d (rule A) → A ≡ 1
is_second p d A n = next_each (λ p d X. X ≡ rule A → A ≡ 1) (λ e. cc) (λ e. cc) (λ e. cc) (λ e. cc) p d (rule A) n refl

-- its productions are the first two
opens : (P : ℕ → Type 0) → P 0 → P 1 → (p d A q : ℕ) → IsNext nested p d (rule A) → IsOf nested q A → P q
opens P x y p d A q n o = of_each (λ q A. A ≡ 1 → P q) (λ e. x) (λ e. y) (λ e. absurd (omega arith)) q A o (is_second p d A n)

behind01 : from_dot nested 0 2 ≡ token 1 ∷ []
unfolding body_of
behind01 = refl

behind20 : from_dot nested 2 1 ≡ []
unfolding body_of
behind20 = refl

abbrev end_bits : List Bool
end_bits = false ∷ false ∷ true ∷ []

abbrev b_bits : List Bool
b_bits = false ∷ true ∷ false ∷ []

abbrev both_bits : List Bool
both_bits = false ∷ true ∷ true ∷ []

abbrev entry : ℕ → ℕ → List Bool → Entry
entry p d bits = record { production = p; dot = d; lookaheads = bits }

abbrev one : ℕ → ℕ → List Bool → ItemSet
one p d bits = entry p d bits ∷ []

item_one : (p d : ℕ) (bits : List Bool) → HasItem (one p d bits) p d
item_one p d bits = record { lookaheads = bits; at = entry_here (entry p d bits) [] }

look_one : (p d : ℕ) (bits : List Bool) (t : ℕ) → slice_get bits t ≡ Some true → HasLook (one p d bits) p d t
look_one p d bits t h = record { lookaheads = bits; at = entry_here (entry p d bits) []; set = h }

abbrev ItemsOf : ItemSet → Items
ItemsOf s = Closure nested (HasItem s)

abbrev LooksOf : ItemSet → Lookaheads
LooksOf s = ClosureLook nested (HasItem s) (HasLook s)

-- the start state
abbrev closed0 : ItemSet
closed0 = entry 0 0 end_bits ∷ entry 1 0 end_bits ∷ entry 2 0 end_bits ∷ []

look0 : (p : ℕ) → p < 3 → HasLook closed0 p 0 2
unfolding entry_at
look0 zero h = record { lookaheads = _; at = refl; set = refl }
look0 (suc zero) h = record { lookaheads = _; at = refl; set = refl }
look0 (suc (suc zero)) h = record { lookaheads = _; at = refl; set = refl }
look0 (suc (suc (suc p))) h = absurd (omega arith)

item0 : (p : ℕ) → p < 3 → HasItem closed0 p 0
item0 p h = let l = look0 p h in record { lookaheads = l.lookaheads; at = l.at }

closed0_is : Is closed0 (ItemsOf (one 2 0 end_bits)) (LooksOf (one 2 0 end_bits))
closed0_is = is_closure nested (one 2 0 end_bits) closed0 (record {
  items = each_item (one 2 0 end_bits) (HasItem closed0) (item0 2 (omega arith), tt);
  looks = each_look (one 2 0 end_bits) (HasLook closed0) ((look0 2 (omega arith), tt), tt);
  opened = λ p d A q h n o. opens (λ q. HasItem closed0 q 0) (item0 0 (omega arith)) (item0 1 (omega arith)) p d A q n o;
  firsts = λ p d A q t h n o f. absurd (none_first p d A t h n f);
  passed = λ p d A q t l n o z. subst (HasLook closed0 q 0) (sym (each_look closed0 (λ p d t. t ≡ 2) ((refl, tt), ((refl, tt), ((refl, tt), tt))) p d t l)) (opens (λ q. HasLook closed0 q 0 2) (look0 0 (omega arith)) (look0 1 (omega arith)) p d A q n o);
  items_back = each_item closed0 (ItemsOf (one 2 0 end_bits)) (Closure.opened given next20 of0, (Closure.opened given next20 of1, (given, tt)));
  looks_back = each_look closed0 (LooksOf (one 2 0 end_bits)) ((ClosureLook.passed given_look next20 of0 nullable, tt), ((ClosureLook.passed given_look next20 of1 nullable, tt), ((given_look, tt), tt)));
})
  where
    given : ItemsOf (one 2 0 end_bits) 2 0
    given = Closure.given (item_one 2 0 end_bits)

    given_look : LooksOf (one 2 0 end_bits) 2 0 2
    given_look = ClosureLook.given (look_one 2 0 end_bits 2 refl)

    nullable : Nullable nested (from_dot nested 2 1)
    nullable = subst (Nullable nested) (sym behind20) Derives.none

    none_first : (p d A t : ℕ) → HasItem closed0 p d → IsNext nested p d (rule A) → IsFirst nested (from_dot nested p (suc d)) t → ⊥
    none_first p d A t h n f = at_rule (λ p d. d ≡ 0 → IsFirst nested (from_dot nested p (suc d)) t → ⊥) p d A n
        (λ x y e f. absurd (omega arith)) (λ x y e f. no_first nested t (subst (λ a. IsFirst nested a t) behind20 f))
        (each_item closed0 (λ p d. d ≡ 0) (refl, (refl, (refl, tt))) p d h) f

-- the state after a, whatever its lookaheads
module _ (bits : List Bool) where
  abbrev closed2 : ItemSet
  closed2 = entry 0 0 b_bits ∷ entry 0 1 bits ∷ entry 1 0 b_bits ∷ []

  abbrev core2 : ItemSet
  core2 = one 0 1 bits

  item2 : HasItem closed2 0 1
  unfolding entry_at
  item2 = record { lookaheads = _; at = refl }

  look2 : (t : ℕ) → slice_get bits t ≡ Some true → HasLook closed2 0 1 t
  unfolding entry_at
  look2 t h = record { lookaheads = _; at = refl; set = h }

  opened2 : (q : ℕ) → q < 2 → HasLook closed2 q 0 1
  unfolding entry_at
  opened2 zero h = record { lookaheads = _; at = refl; set = refl }
  opened2 (suc zero) h = record { lookaheads = _; at = refl; set = refl }
  opened2 (suc (suc q)) h = absurd (omega arith)

  opened_item2 : (q : ℕ) → q < 2 → HasItem closed2 q 0
  opened_item2 q h = let l = opened2 q h in record { lookaheads = l.lookaheads; at = l.at }

  below_two : (p d : ℕ) → HasItem closed2 p d → p < 2
  below_two = each_item closed2 (λ p d. p < 2) (omega arith, (omega arith, (omega arith, tt)))

  first_is_b : (p d A t : ℕ) → HasItem closed2 p d → IsNext nested p d (rule A) → IsFirst nested (from_dot nested p (suc d)) t → 1 ≡ t
  first_is_b p d A t h n f = at_rule (λ p d. p < 2 → IsFirst nested (from_dot nested p (suc d)) t → 1 ≡ t) p d A n
      (λ x y e f. first_of_token nested 1 t [] (subst (λ a. IsFirst nested a t) behind01 f)) (λ x y e f. absurd (omega arith))
      (below_two p d h) f

  none_passes : (p d A : ℕ) → HasItem closed2 p d → IsNext nested p d (rule A) → Nullable nested (from_dot nested p (suc d)) → ⊥
  none_passes p d A h n z = at_rule (λ p d. p < 2 → Nullable nested (from_dot nested p (suc d)) → ⊥) p d A n
      (λ x y e z. not_nullable nested 1 [] (subst (Nullable nested) behind01 z)) (λ x y e z. absurd (omega arith))
      (below_two p d h) z

  given2 : ItemsOf core2 0 1
  given2 = Closure.given (item_one 0 1 bits)

  b_first : IsFirst nested (from_dot nested 0 2) 1
  b_first = ([], subst (λ a. Derives nested a (token 1 ∷ [])) (sym behind01) Derives.none)

  closed2_is : Is closed2 (ItemsOf core2) (LooksOf core2)
  closed2_is = is_closure nested core2 closed2 (record {
    items = each_item core2 (HasItem closed2) (item2, tt);
    looks = each_set core2 (HasLook closed2) (look2, tt);
    opened = λ p d A q h n o. opens (λ q. HasItem closed2 q 0) (opened_item2 0 (omega arith)) (opened_item2 1 (omega arith)) p d A q n o;
    firsts = λ p d A q t h n o f. subst (HasLook closed2 q 0) (first_is_b p d A t h n f) (opens (λ q. HasLook closed2 q 0 1) (opened2 0 (omega arith)) (opened2 1 (omega arith)) p d A q n o);
    passed = λ p d A q t l n o z. absurd (none_passes p d A (record { lookaheads = l.lookaheads; at = l.at }) n z);
    items_back = each_item closed2 (ItemsOf core2) (Closure.opened given2 next01 of0, (given2, (Closure.opened given2 next01 of1, tt)));
    looks_back = each_set closed2 (LooksOf core2) (b_opened 0 of0, ((λ t h. ClosureLook.given (look_one 0 1 bits t h)), (b_opened 1 of1, tt)));
  })
    where
      b_opened : (q : ℕ) → IsOf nested q 1 → (t : ℕ) → slice_get b_bits t ≡ Some true → LooksOf core2 q 0 t
      b_opened q o zero h = cc
      b_opened q o (suc zero) h = ClosureLook.first given2 next01 o b_first
      b_opened q o (suc (suc zero)) h = cc
      b_opened q o (suc (suc (suc t))) h = cc

-- in the other states nothing is opened
own : (p d : ℕ) (bits : List Bool) → ((A : ℕ) → IsNext nested p d (rule A) → ⊥) → Is (one p d bits) (ItemsOf (one p d bits)) (LooksOf (one p d bits))
own p d bits none = own_closure nested (one p d bits) (λ q e A i n. each_item (one p d bits) (λ q e. IsNext nested q e (rule A) → ⊥) (none A, tt) q e i n)

-- a set of one item joins the first state with that item
joins_one : (g : Graph) (k p d : ℕ) (old new : List Bool) (J : Items) (M : Lookaheads) → core_of g k ≡ one p d old → IsState g k → Is (one p d new) J M → ((j : ℕ) → j < k → StaysOut g j J M) → Joins g k J M
joins_one g k p d old new J M core state is first = record {
  state = state;
  same = λ q e. (there q e, back q e);
  fits = λ q e r f x y differ. absurd (let (i, j) = only q e x in let (m, n) = only r f y in differ (i ∙ sym m) (j ∙ sym n));
  first = first;
}
  where
    there : (q e : ℕ) → HasItem (core_of g k) q e → J q e
    there q e h = (is.items q e).1 (each_item (one p d old) (HasItem (one p d new)) (item_one p d new, tt) q e (subst (λ s. HasItem s q e) core h))

    back : (q e : ℕ) → J q e → HasItem (core_of g k) q e
    back q e h = subst (λ s. HasItem s q e) (sym core) (each_item (one p d new) (HasItem (one p d old)) (item_one p d old, tt) q e ((is.items q e).0 h))

    only : (q e : ℕ) → HasItem (core_of g k) q e → (q ≡ p) × (e ≡ d)
    only q e h = each_item (one p d old) (λ q e. (q ≡ p) × (e ≡ d)) ((refl, refl), tt) q e (subst (λ s. HasItem s q e) core h)

abbrev Set : List Bool → ℕ → Type 0
Set bits t = slice_get bits t ≡ Some true

-- the union of two sets of one item
union_one : (p d : ℕ) (old new union : List Bool) (J : Items) (M : Lookaheads) → Is (one p d new) J M → ((t : ℕ) → Set old t → Set union t) → ((t : ℕ) → Set new t → Set union t) → ((t : ℕ) → Set union t → Set old t ⊎ Set new t) →
    Is (one p d union) J (Union (HasLook (one p d old)) M)
union_one p d old new union J M is from_old from_new parts = record {
  items = λ q e. (
    λ h. each_item (one p d new) (HasItem (one p d union)) (item_one p d union, tt) q e ((is.items q e).0 h),
    λ h. (is.items q e).1 (each_item (one p d union) (HasItem (one p d new)) (item_one p d new, tt) q e h),
  );
  looks = λ q e t. (there q e t, each_set (one p d union) (Union (HasLook (one p d old)) M) (λ t h. back t (parts t h), tt) q e t);
}
  where
    there : (q e t : ℕ) → Union (HasLook (one p d old)) M q e t → HasLook (one p d union) q e t
    there q e t (inl l) = each_set (one p d old) (HasLook (one p d union)) (λ t h. look_one p d union t (from_old t h), tt) q e t l
    there q e t (inr m) = each_set (one p d new) (HasLook (one p d union)) (λ t h. look_one p d union t (from_new t h), tt) q e t ((is.looks q e t).0 m)

    back : (t : ℕ) → Set old t ⊎ Set new t → Union (HasLook (one p d old)) M p d t
    back t (inl h) = inl (look_one p d old t h)
    back t (inr h) = inr ((is.looks p d t).1 (look_one p d new t h))

end_both : (t : ℕ) → Set end_bits t → Set both_bits t
end_both zero h = cc
end_both (suc zero) h = cc
end_both (suc (suc zero)) h = refl
end_both (suc (suc (suc t))) h = cc

b_both : (t : ℕ) → Set b_bits t → Set both_bits t
b_both zero h = cc
b_both (suc zero) h = refl
b_both (suc (suc zero)) h = cc
b_both (suc (suc (suc t))) h = cc

both_parts : (t : ℕ) → Set both_bits t → Set end_bits t ⊎ Set b_bits t
both_parts zero h = cc
both_parts (suc zero) h = inr refl
both_parts (suc (suc zero)) h = inl refl
both_parts (suc (suc (suc t))) h = cc

-- goto of the states
to_s : (bits : List Bool) → Is (one 0 2 bits) (Goto nested (ItemsOf (one 0 1 bits)) (rule 1)) (GotoLook nested (LooksOf (one 0 1 bits)) (rule 1))
unfolding body_of
to_s bits = goto_is nested (rule 1) (ItemsOf (one 0 1 bits)) (LooksOf (one 0 1 bits)) (closed2 bits) (closed2_is bits)

to_a : (bits : List Bool) → Is (one 0 1 b_bits) (Goto nested (ItemsOf (one 0 1 bits)) (token 0)) (GotoLook nested (LooksOf (one 0 1 bits)) (token 0))
unfolding body_of
to_a bits = goto_is nested (token 0) (ItemsOf (one 0 1 bits)) (LooksOf (one 0 1 bits)) (closed2 bits) (closed2_is bits)

abbrev edges2 : ℕ → Sym → Option ℕ
edges2 = with_edge (with_edge (λ s X. None) 0 (rule 1) 1) 0 (token 0) 2

abbrev edges4 : ℕ → Sym → Option ℕ
edges4 = with_edge (with_edge edges2 2 (rule 1) 3) 2 (token 0) 2

abbrev edges6 : ℕ → Sym → Option ℕ
edges6 = with_edge (with_edge edges4 2 (rule 1) 3) 2 (token 0) 2

abbrev building : List ItemSet → (ℕ → Sym → Option ℕ) → List Bool → Building
building cores edge todo = record { graph = record { cores = cores; start = 0; edge = edge }; todo = todo }

abbrev begun : Building
begun = building (one 2 0 end_bits ∷ []) (λ s X. None) (true ∷ [])

abbrev step1 : Building
step1 = building (one 2 0 end_bits ∷ one 2 1 end_bits ∷ one 0 1 end_bits ∷ []) edges2 (false ∷ true ∷ true ∷ [])

abbrev step2 : Building
step2 = building (one 2 0 end_bits ∷ one 2 1 end_bits ∷ one 0 1 end_bits ∷ []) edges2 (false ∷ false ∷ true ∷ [])

abbrev step3 : Building
step3 = building (one 2 0 end_bits ∷ one 2 1 end_bits ∷ one 0 1 both_bits ∷ one 0 2 end_bits ∷ []) edges4 (false ∷ false ∷ true ∷ true ∷ [])

abbrev step4 : Building
step4 = building (one 2 0 end_bits ∷ one 2 1 end_bits ∷ one 0 1 both_bits ∷ one 0 2 both_bits ∷ []) edges6 (false ∷ false ∷ false ∷ true ∷ [])

abbrev last_cores : List ItemSet
last_cores = one 2 0 end_bits ∷ one 2 1 end_bits ∷ one 0 1 both_bits ∷ one 0 2 both_bits ∷ one 0 3 both_bits ∷ []

abbrev edges7 : ℕ → Sym → Option ℕ
edges7 = with_edge edges6 3 (token 1) 4

abbrev step5 : Building
step5 = building last_cores edges7 (false ∷ false ∷ false ∷ false ∷ true ∷ [])

abbrev ended : Building
ended = building last_cores edges7 (false ∷ false ∷ false ∷ false ∷ false ∷ [])

begins : Begins nested begun
begins = record { core = one 2 0 end_bits; cores = refl; is = start_is; start = refl; no_edge = λ s X. refl; todo = refl }
  where
    there : (p d : ℕ) → StartItem nested p d → HasItem (one 2 0 end_bits) p d
    there p _ (StartItem.start e) = subst (λ n. HasItem (one 2 0 end_bits) n 0) (sym e) (item_one 2 0 end_bits)

    look_there : (p d t : ℕ) → StartLook nested p d t → HasLook (one 2 0 end_bits) p d t
    look_there p _ t (StartLook.start x y) = subst (λ n. HasLook (one 2 0 end_bits) n 0 t) (sym x) (subst (HasLook (one 2 0 end_bits) 2 0) (sym y) (look_one 2 0 end_bits 2 refl))

    start_is : Is (one 2 0 end_bits) (StartItem nested) (StartLook nested)
    start_is = record {
      items = λ p d. (there p d, each_item (one 2 0 end_bits) (StartItem nested) (StartItem.start refl, tt) p d);
      looks = λ p d t. (look_there p d t, each_look (one 2 0 end_bits) (StartLook nested) ((StartLook.start refl refl, tt), tt) p d t);
    }

-- a symbol after no dot of a closed state
skips : (core s : ItemSet) → Is s (ItemsOf core) (LooksOf core) → (X : Sym) → goto_set nested s X ≡ [] → (p d : ℕ) → ItemsOf core p d → IsNext nested p d X → ⊥
skips core s is X e = none_moves nested X (ItemsOf core) (LooksOf core) s is e

first_step : Step nested begun step1
unfolding symbols body_of entry_at
first_step = record {
  state = 0;
  todo = refl;
  first = idle_before 0 begun refl;
  handled = Handled.absent (skips (one 2 0 end_bits) closed0 closed0_is (rule 0) refl)
      (Handled.placed 2 0 given next20 (Place.added (one 2 1 end_bits) (stays_out 1 begun.graph (one 2 1 end_bits) refl _ _ to_rule) to_rule)
      (Handled.placed 0 0 (Closure.opened given next20 of0) next00
      (Place.added (one 0 1 end_bits) (stays_out 2 (record { cores = one 2 0 end_bits ∷ one 2 1 end_bits ∷ []; start = 0; edge = with_edge (λ s X. None) 0 (rule 1) 1 }) (one 0 1 end_bits) refl _ _ to_token) to_token)
      (Handled.absent (skips (one 2 0 end_bits) closed0 closed0_is (token 1) refl)
      (Handled.absent (skips (one 2 0 end_bits) closed0 closed0_is (token 2) refl) Handled.done))));
}
  where
    given : ItemsOf (one 2 0 end_bits) 2 0
    given = Closure.given (item_one 2 0 end_bits)

    to_rule : Is (one 2 1 end_bits) (Goto nested (ItemsOf (one 2 0 end_bits)) (rule 1)) (GotoLook nested (LooksOf (one 2 0 end_bits)) (rule 1))
    to_rule = goto_is nested (rule 1) (ItemsOf (one 2 0 end_bits)) (LooksOf (one 2 0 end_bits)) closed0 closed0_is

    to_token : Is (one 0 1 end_bits) (Goto nested (ItemsOf (one 2 0 end_bits)) (token 0)) (GotoLook nested (LooksOf (one 2 0 end_bits)) (token 0))
    to_token = goto_is nested (token 0) (ItemsOf (one 2 0 end_bits)) (LooksOf (one 2 0 end_bits)) closed0 closed0_is

-- a state in which no dot stands before a symbol
past_all : (p d : ℕ) (bits : List Bool) → ((X : Sym) → IsNext nested p d X → ⊥) → (X : Sym) → (q e : ℕ) → ItemsOf (one p d bits) q e → IsNext nested q e X → ⊥
past_all p d bits none X q e i n = each_item (one p d bits) (λ q e. IsNext nested q e X → ⊥) (none X, tt) q e (((own p d bits (λ A. none (rule A))).items q e).0 i) n

second : Step nested step1 step2
unfolding symbols body_of
second = record {
  state = 1;
  todo = refl;
  first = idle_before 1 step1 refl;
  handled = Handled.absent (none (rule 0)) (Handled.absent (none (rule 1)) (Handled.absent (none (token 0)) (Handled.absent (none (token 1)) (Handled.absent (none (token 2)) Handled.done))));
}
  where
    none : (X : Sym) (q e : ℕ) → ItemsOf (one 2 1 end_bits) q e → IsNext nested q e X → ⊥
    none = past_all 2 1 end_bits (λ X n. none_some X n.at)

-- the state after a leads to itself, and gets b
old_look : HasLook (one 0 1 end_bits) 0 1 1 → ⊥
old_look l = let e = each_look (one 0 1 end_bits) (λ p d t. t ≡ 2) ((refl, tt), tt) 0 1 1 l in absurd (omega arith)

old_after : HasLook (one 0 2 end_bits) 0 2 1 → ⊥
old_after l = let e = each_look (one 0 2 end_bits) (λ p d t. t ≡ 2) ((refl, tt), tt) 0 2 1 l in absurd (omega arith)

third : Step nested step2 step3
unfolding symbols body_of entry_at
third = record {
  state = 2;
  todo = refl;
  first = idle_before 2 step2 refl;
  handled = Handled.absent (skips (one 0 1 end_bits) (closed2 end_bits) (closed2_is end_bits) (rule 0) refl)
      (Handled.placed 0 1 (given2 end_bits) next01 (Place.added (one 0 2 end_bits) (stays_out 3 step2.graph (one 0 2 end_bits) refl _ _ (to_s end_bits)) (to_s end_bits))
      (Handled.placed 0 0 (Closure.opened (given2 end_bits) next01 of0) next00
      (Place.grown 2 0 1 1 (one 0 1 both_bits)
      (joins_one between 2 0 1 end_bits b_bits _ _ refl (let lt : 2 < 4 = omega arith in lt) (to_a end_bits) (stays_out 2 between (one 0 1 b_bits) refl _ _ (to_a end_bits)))
      (((to_a end_bits).looks 0 1 1).1 (look_one 0 1 b_bits 1 refl)) old_look
      (union_one 0 1 end_bits b_bits both_bits _ _ (to_a end_bits) end_both b_both both_parts))
      (Handled.absent (skips (one 0 1 end_bits) (closed2 end_bits) (closed2_is end_bits) (token 1) refl)
      (Handled.absent (skips (one 0 1 end_bits) (closed2 end_bits) (closed2_is end_bits) (token 2) refl) Handled.done))));
}
  where
    between : Graph
    between = record { cores = one 2 0 end_bits ∷ one 2 1 end_bits ∷ one 0 1 end_bits ∷ one 0 2 end_bits ∷ []; start = 0; edge = with_edge edges2 2 (rule 1) 3 }

some_looks : (p d : ℕ) (new old : List Bool) (J : Items) (M : Lookaheads) → Is (one p d new) J M → ((t : ℕ) → Set new t → Set old t) → SomeLooks M (HasLook (one p d old))
some_looks p d new old J M is more q e t l = each_set (one p d new) (HasLook (one p d old)) (λ t h. look_one p d old t (more t h), tt) q e t ((is.looks q e t).0 l)

-- taken again, it hands b on to the state after S
fourth : Step nested step3 step4
unfolding symbols body_of entry_at
fourth = record {
  state = 2;
  todo = refl;
  first = idle_before 2 step3 refl;
  handled = Handled.absent (skips (one 0 1 both_bits) (closed2 both_bits) (closed2_is both_bits) (rule 0) refl)
      (Handled.placed 0 1 (given2 both_bits) next01
      (Place.grown 3 0 2 1 (one 0 2 both_bits)
      (joins_one step3.graph 3 0 2 end_bits both_bits _ _ refl (let lt : 3 < 4 = omega arith in lt) (to_s both_bits) (stays_out 3 step3.graph (one 0 2 both_bits) refl _ _ (to_s both_bits)))
      (((to_s both_bits).looks 0 2 1).1 (look_one 0 2 both_bits 1 refl)) old_after
      (union_one 0 2 end_bits both_bits both_bits _ _ (to_s both_bits) end_both (λ t h. h) (λ t h. inr h)))
      (Handled.placed 0 0 (Closure.opened (given2 both_bits) next01 of0) next00
      (Place.kept 2
      (joins_one between 2 0 1 both_bits b_bits _ _ refl (let lt : 2 < 4 = omega arith in lt) (to_a both_bits) (stays_out 2 between (one 0 1 b_bits) refl _ _ (to_a both_bits)))
      (some_looks 0 1 b_bits both_bits _ _ (to_a both_bits) b_both))
      (Handled.absent (skips (one 0 1 both_bits) (closed2 both_bits) (closed2_is both_bits) (token 1) refl)
      (Handled.absent (skips (one 0 1 both_bits) (closed2 both_bits) (closed2_is both_bits) (token 2) refl) Handled.done))));
}
  where
    between : Graph
    between = record { cores = one 2 0 end_bits ∷ one 2 1 end_bits ∷ one 0 1 both_bits ∷ one 0 2 both_bits ∷ []; start = 0; edge = with_edge edges4 2 (rule 1) 3 }

after_s : Is (one 0 2 both_bits) (ItemsOf (one 0 2 both_bits)) (LooksOf (one 0 2 both_bits))
unfolding body_of
after_s = own 0 2 both_bits (λ A n. let e = n.at in cc)

fifth : Step nested step4 step5
unfolding symbols body_of entry_at
fifth = record {
  state = 3;
  todo = refl;
  first = idle_before 3 step4 refl;
  handled = Handled.absent (none (rule 0) refl) (Handled.absent (none (rule 1) refl) (Handled.absent (none (token 0) refl)
      (Handled.placed 0 2 (Closure.given (item_one 0 2 both_bits)) next02 (Place.added (one 0 3 both_bits) (stays_out 4 step4.graph (one 0 3 both_bits) refl _ _ to_b) to_b)
      (Handled.absent (none (token 2) refl) Handled.done))));
}
  where
    none : (X : Sym) → goto_set nested (one 0 2 both_bits) X ≡ [] → (p d : ℕ) → ItemsOf (one 0 2 both_bits) p d → IsNext nested p d X → ⊥
    none X e = skips (one 0 2 both_bits) (one 0 2 both_bits) after_s X e

    to_b : Is (one 0 3 both_bits) (Goto nested (ItemsOf (one 0 2 both_bits)) (token 1)) (GotoLook nested (LooksOf (one 0 2 both_bits)) (token 1))
    to_b = goto_is nested (token 1) (ItemsOf (one 0 2 both_bits)) (LooksOf (one 0 2 both_bits)) (one 0 2 both_bits) after_s

sixth : Step nested step5 ended
unfolding symbols body_of
sixth = record {
  state = 4;
  todo = refl;
  first = idle_before 4 step5 refl;
  handled = Handled.absent (none (rule 0)) (Handled.absent (none (rule 1)) (Handled.absent (none (token 0)) (Handled.absent (none (token 1)) (Handled.absent (none (token 2)) Handled.done))));
}
  where
    none : (X : Sym) (q e : ℕ) → ItemsOf (one 0 3 both_bits) q e → IsNext nested q e X → ⊥
    none = past_all 0 3 both_bits (λ X n. none_some X n.at)

before : Reached nested step2
before = Reached.step (Reached.step (Reached.begin begins) first_step) second

built : Built nested ended
built = record { reached = Reached.step (Reached.step (Reached.step (Reached.step before third) fourth) fifth) sixth; nothing_left = none_left ended refl }

is_graph : IsGraph nested ended.graph
unfolding with_edge
is_graph = unpruned nested good ended built led_to
  where
    to_rule : ended.graph.edge 0 (rule 1) ≡ Some 1
    to_rule = refl

    to_two : ended.graph.edge 0 (token 0) ≡ Some 2
    to_two = refl

    to_three : ended.graph.edge 2 (rule 1) ≡ Some 3
    to_three = refl

    to_four : ended.graph.edge 3 (token 1) ≡ Some 4
    to_four = refl

    three : Leads ended.graph (rule 1 ∷ token 0 ∷ []) 3
    three = Leads.on (Leads.on (Leads.none refl) to_two) to_three

    led_to : (s : ℕ) → s < 5 → (w : List Sym) × Leads ended.graph w s
    led_to zero h = ([], Leads.none refl)
    led_to (suc zero) h = (rule 1 ∷ [], Leads.on (Leads.none refl) to_rule)
    led_to (suc (suc zero)) h = (token 0 ∷ [], Leads.on (Leads.none refl) to_two)
    led_to (suc (suc (suc zero))) h = (rule 1 ∷ token 0 ∷ [], three)
    led_to (suc (suc (suc (suc zero)))) h = (token 1 ∷ rule 1 ∷ token 0 ∷ [], Leads.on three to_four)
    led_to (suc (suc (suc (suc (suc s))))) h = absurd (omega arith)

pub state_grows : StateGrows
unfolding third
state_grows = record {
  well_formed = good;
  before = step2;
  after = step3;
  reached = before;
  step = third;
  item = item_one 0 1 end_bits;
  without = old_look;
  grown = look_one 0 1 both_bits 1 refl;
  again = refl;
  graph = ended.graph;
  is_graph = is_graph;
  states = refl;
}
