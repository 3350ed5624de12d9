-- Placing a set among the states.
use Rattle.std.proofs.Common.{◌≡◌, ℕ, ◌<◌, inl, inr, Bool, true, false, cond, ◌&&◌, List, [], ◌∷◌, ◌++◌, length, get_or, set, map, Some, nat_eq, refl, sym, ap, ap₂, ◌∙◌, subst, arith, length-append, get_or-set_same, get_or-set_other, eqb-true}
use Rattle.std.proofs.lemmas.Bool.{cases_eq, cases_lt}
use Rattle.std.proofs.lemmas.List.{get_or_past, get_or-map, length-map, map-set, map-append, get_or_append_left}
use Rattle.std.proofs.Math.Seq.{get_or-append_seam}
use Rattle.cfg_theory.specs.Grammar.{Sym}
use Rattle.lr_theory.specs.Itemset.{Items, Lookaheads, ItemSet, HasItem, HasLook, SameItems, SameLooks, Is, Union, WeaklyCompatible}
use Rattle.lr_theory.specs.Graph.{CoreLook, core_of, IsState}
use Rattle.lr_theory.specs.Building.{Building, same_symbol, with_edge, Joins, StaysOut, Incompatible, Place}
use Rattle.state_table.specs.ItemRows.{Item, Core, Ascends, IsCoreOf, set_of, map_of, join_rows, CoversRows, LacksRows}
use Rattle.state_table.specs.Meeting.{row}
use Rattle.lrtable.specs.States.{Edge, StateValue, no_state, state_at, edge_in, edge_of, Matches, AreStates, IsPut, StaysApart, JoinsAt, JoinsNone}
use Rattle.vob.proofs.Bits.{set_same}
use Rattle.state_table.proofs.ItemSets.{has_item, weakly, apart}
use Rattle.lrtable.proofs.CoreSets.{same_cores, union_is, covers, lacks}

-- the building with an edge
abbrev pub edged : Building → ℕ → Sym → ℕ → Building
edged b s X k = record { graph = record { cores = b.graph.cores; start = b.graph.start; edge = with_edge b.graph.edge s X k }; todo = b.todo }

-- putting an edge
pub edge_put : (states : List StateValue) (b : Building) (s : ℕ) (X : Sym) (k : ℕ) (es : List Edge) → Matches states b → s < length states → IsPut (state_at states s).edges X k es →
    Matches (set states s (record { core = (state_at states s).core; edges = es; todo = (state_at states s).todo })) (edged b s X k)
unfolding with_edge
edge_put states b s X k es m lt put = record {
  cores = m.cores ∙ sym (map-set (λ x. map_of x.core) states s new ∙ set_same (map (λ x. map_of x.core) states) s (map_of new.core) (map_of no_state.core) (omega (arith, lt, length-map states (λ x. map_of x.core))) (sym (get_or-map (λ (x : StateValue). map_of x.core) states s no_state (map_of no_state.core) lt)));
  start = m.start;
  edges = λ r Y. by r Y (nat_eq r s) refl;
  todo = m.todo ∙ sym (map-set (λ x. x.todo) states s new ∙ set_same (map (λ x. x.todo) states) s new.todo false (omega (arith, lt, length-map states (λ x. x.todo))) (sym (get_or-map (λ (x : StateValue). x.todo) states s no_state false lt)));
}
  where
    new : StateValue
    new = record { core = (state_at states s).core; edges = es; todo = (state_at states s).todo }

    refl_eq : (n : ℕ) → nat_eq n n ≡ true
    refl_eq n = grind arith

    never : false ≡ true → ⊥
    never e = cc

    by : (r : ℕ) (Y : Sym) (e : Bool) → nat_eq r s ≡ e → cond (nat_eq r s && same_symbol Y X) (Some k) (b.graph.edge r Y) ≡ edge_of (set states s new) r Y
    by r Y true q =
        let same : r ≡ s = eqb-true r s q in
        let old : b.graph.edge r Y ≡ edge_in (state_at states s).edges Y = m.edges r Y ∙ ap (λ n. edge_of states n Y) same in
        let now : edge_of (set states s new) r Y ≡ edge_in es Y = ap (λ n. edge_of (set states s new) n Y) same ∙ ap (λ (x : StateValue). edge_in x.edges Y) (get_or-set_same states s new no_state lt) in
        ap₂ (λ u v. cond (u && same_symbol Y X) (Some k) v) q old ∙ sym (put.at Y) ∙ sym now
    by r Y false q =
        let ne : r ≡ s → ⊥ = λ e. never (sym q ∙ ap (λ n. nat_eq n s) e ∙ refl_eq s) in
        ap (λ u. cond (u && same_symbol Y X) (Some k) (b.graph.edge r Y)) q ∙ m.edges r Y ∙ ap (λ (x : StateValue). edge_in x.edges Y) (sym (get_or-set_other states s r new no_state ne))

-- a state that grows
pub grown_matches : (states : List StateValue) (b : Building) (k : ℕ) (core : Core) → Matches states b → k < length states →
    Matches (set states k (record { core = core; edges = (state_at states k).edges; todo = true })) (record { graph = record { cores = set b.graph.cores k (map_of core); start = b.graph.start; edge = b.graph.edge }; todo = set b.todo k true })
grown_matches states b k core m lt = record {
  cores = ap (λ l. set l k (map_of core)) m.cores ∙ sym (map-set (λ x. map_of x.core) states k new);
  start = m.start;
  edges = λ r Y. m.edges r Y ∙ sym (kept r Y);
  todo = ap (λ l. set l k true) m.todo ∙ sym (map-set (λ x. x.todo) states k new);
}
  where
    new : StateValue
    new = record { core = core; edges = (state_at states k).edges; todo = true }

    kept : (r : ℕ) (Y : Sym) → edge_of (set states k new) r Y ≡ edge_of states r Y
    kept r Y = elim (cases_eq r k) [
      | inl e ↦ ap (λ n. edge_of (set states k new) n Y) e ∙ ap (λ (x : StateValue). edge_in x.edges Y) (get_or-set_same states k new no_state lt) ∙ ap (λ n. edge_of states n Y) (sym e)
      | inr ne ↦ ap (λ (x : StateValue). edge_in x.edges Y) (get_or-set_other states k r new no_state ne)
    ]

-- a new state
pub added_matches : (states : List StateValue) (b : Building) (core : Core) → Matches states b →
    Matches (states ++ record { core = core; edges = []; todo = true } ∷ []) (record { graph = record { cores = b.graph.cores ++ map_of core ∷ []; start = b.graph.start; edge = b.graph.edge }; todo = b.todo ++ true ∷ [] })
added_matches states b core m = record {
  cores = ap (λ l. l ++ map_of core ∷ []) m.cores ∙ sym (map-append (λ x. map_of x.core) states (new ∷ []));
  start = m.start;
  edges = λ r Y. m.edges r Y ∙ sym (kept r Y);
  todo = ap (λ l. l ++ true ∷ []) m.todo ∙ sym (map-append (λ x. x.todo) states (new ∷ []));
}
  where
    new : StateValue
    new = record { core = core; edges = []; todo = true }

    kept : (r : ℕ) (Y : Sym) → edge_of (states ++ new ∷ []) r Y ≡ edge_of states r Y
    kept r Y = elim (cases_lt r (length states)) [
      | inl lt ↦ ap (λ (x : StateValue). edge_in x.edges Y) (get_or_append_left states (new ∷ []) no_state r lt)
      | inr ge ↦ elim (cases_eq r (length states)) [
        | inl e ↦ ap (λ n. edge_of (states ++ new ∷ []) n Y) e ∙ ap (λ (x : StateValue). edge_in x.edges Y) (get_or-append_seam states new [] no_state) ∙ sym (ap (λ (x : StateValue). edge_in x.edges Y) (get_or_past states r no_state ge))
        | inr ne ↦ ap (λ (x : StateValue). edge_in x.edges Y) (get_or_past (states ++ new ∷ []) r no_state (let n = length-append states (new ∷ []) in omega (arith, ge, ne, n)) ∙ sym (get_or_past states r no_state ge))
      ]
    ]

-- the core of a state
pub core_is : (states : List StateValue) (b : Building) (k : ℕ) → Matches states b → core_of b.graph k ≡ map_of (state_at states k).core
core_is states b k m = ap (λ l. get_or l k []) m.cores ∙ elim (cases_lt k (length states)) [
  | inl lt ↦ get_or-map (λ (x : StateValue). map_of x.core) states k no_state [] lt
  | inr ge ↦ get_or_past (map (λ (x : StateValue). map_of x.core) states) k [] (let n = length-map states (λ x. map_of x.core) in omega (arith, ge, n)) ∙ sym (ap (λ (x : StateValue). map_of x.core) (get_or_past states k no_state ge))
]

pub count_is : (states : List StateValue) (b : Building) → Matches states b → length b.graph.cores ≡ length states
count_is states b m = ap length m.cores ∙ length-map states (λ x. map_of x.core)

same_back : (I J : Items) → SameItems I J → SameItems J I
same_back I J h = λ p d. ((h p d).1, (h p d).0)

same_on : (I J K : Items) → SameItems I J → SameItems J K → SameItems I K
same_on I J K h k = λ p d. (λ x. (k p d).0 ((h p d).0 x), λ x. (h p d).1 ((k p d).1 x))

-- maps of one list of items have the same items
one_core : (items : List Item) (ls ms : List (List Bool)) → Ascends items → length ls ≡ length items → length ms ≡ length items → SameItems (HasItem (set_of items ls)) (HasItem (set_of items ms))
one_core items ls ms a n m = λ p d. (λ x. (has_item items ms a m p d).1 ((has_item items ls a n p d).0 x), λ x. (has_item items ls a n p d).1 ((has_item items ms a m p d).0 x))

apart_as : (I : Items) (L M N : Lookaheads) → SameLooks M N → Incompatible I L N → Incompatible I L M
apart_as I L M N h c = record {
  production = c.production;
  dot = c.dot;
  other_production = c.other_production;
  other_dot = c.other_dot;
  item = c.item;
  other_item = c.other_item;
  differ = c.differ;
  cross = (c.cross.0, c.cross.1, (h _ _ _).1 c.cross.2);
  apart = c.apart;
  other_apart = λ x. c.other_apart (x.0, (h _ _ _).0 x.1, (h _ _ _).0 x.2);
}

weakly_as : (I : Items) (L M N : Lookaheads) → SameLooks M N → WeaklyCompatible I L N → WeaklyCompatible I L M
weakly_as I L M N h c = λ p d q e x y differ. elim (c p d q e x y differ) [
  | inl u ↦ inl ((λ z. u.0 (z.0, z.1, (h _ _ _).0 z.2)), (λ z. u.1 (z.0, (h _ _ _).0 z.1, z.2)))
  | inr v ↦ inr (elim v [ inl w ↦ inl w | inr w ↦ inr (w.0, (h _ _ _).1 w.1, (h _ _ _).1 w.2) ])
]

module _ (tokens : ℕ) (states : List StateValue) (b : Building) (m : Matches states b) (all : AreStates tokens states) (J : Items) (M : Lookaheads) (given : Core) (good : IsCoreOf tokens given) (is : Is (map_of given) J M) where
  rows_at : ℕ → List (List Bool)
  rows_at k = (state_at states k).core.rows

  -- a state of the same core
  core_with : (k : ℕ) → (state_at states k).core.items ≡ given.items → core_of b.graph k ≡ set_of given.items (state_at states k).core.rows
  core_with k e = core_is states b k m ∙ ap (λ l. set_of l (state_at states k).core.rows) e

  rows_fit : (k : ℕ) → k < length states → (state_at states k).core.items ≡ given.items → length (state_at states k).core.rows ≡ length given.items
  rows_fit k lt e = (all.cores k lt).count ∙ ap length e

  stays_apart : (k : ℕ) → k < length states → StaysApart states k given → StaysOut b.graph k J M
  stays_apart k lt (inl ne) = inl (λ same. ne (same_cores (state_at states k).core.items given.items (state_at states k).core.rows given.rows (all.cores k lt).ascends good.ascends (all.cores k lt).count good.count
      (same_on (HasItem (map_of (state_at states k).core)) J (HasItem (map_of given)) (subst (λ (c : ItemSet). SameItems (HasItem c) J) (core_is states b k m) same) is.items)))
  stays_apart k lt (inr (e, h)) = inr (subst (λ (c : ItemSet). Incompatible (HasItem c) (HasLook c) M) (sym (core_with k e))
      (apart_as (HasItem (set_of given.items (state_at states k).core.rows)) (HasLook (set_of given.items (state_at states k).core.rows)) M (HasLook (map_of given)) is.looks
      (apart given.items good.ascends (state_at states k).core.rows given.rows (rows_fit k lt e) good.count h)))

  is_state : (k : ℕ) → k < length states → IsState b.graph k
  is_state k lt = let n = count_is states b m in omega (arith, lt, n)

  pub joins_state : (k : ℕ) → JoinsAt states k given → Joins b.graph k J M
  joins_state k h = record {
    state = is_state k h.state;
    same = subst (λ (c : ItemSet). SameItems (HasItem c) J) (sym (core_with k h.same)) (same_on (HasItem (set_of given.items (state_at states k).core.rows)) (HasItem (map_of given)) J
        (one_core given.items (state_at states k).core.rows given.rows good.ascends (rows_fit k h.state h.same) good.count) (same_back J (HasItem (map_of given)) is.items));
    fits = subst (λ (c : ItemSet). WeaklyCompatible (HasItem c) (HasLook c) M) (sym (core_with k h.same))
        (weakly_as (HasItem (set_of given.items (state_at states k).core.rows)) (HasLook (set_of given.items (state_at states k).core.rows)) M (HasLook (map_of given)) is.looks
        (weakly given.items good.ascends (state_at states k).core.rows given.rows (rows_fit k h.state h.same) good.count h.fits));
    first = λ j lt. stays_apart j (let w = h.state in omega (arith, lt, w)) (h.first j lt);
  }

  module _ (s : ℕ) (X : Sym) where
    -- the state has the lookaheads
    pub kept_place : (k : ℕ) → JoinsAt states k given → CoversRows (state_at states k).core.rows given.rows → Place b s X J M (edged b s X k)
    kept_place k h c = Place.kept k (joins_state k h) (λ p d t x. subst (λ (i : ItemSet). HasLook i p d t) (sym (core_with k h.same))
        (covers given.items (state_at states k).core.rows given.rows good.ascends (rows_fit k h.state h.same) good.count (alike k h) c p d t ((is.looks p d t).0 x)))
      where
        alike : (k : ℕ) → JoinsAt states k given → (i : ℕ) → i < length given.items → length (row (state_at states k).core.rows i) ≡ length (row given.rows i)
        alike k h i lt = (all.cores k h.state).width i (let n = rows_fit k h.state h.same in omega (arith, lt, n)) ∙ sym (good.width i (let n = good.count in omega (arith, lt, n)))

    -- the state grows
    pub grown_place : (k : ℕ) → JoinsAt states k given → LacksRows (state_at states k).core.rows given.rows →
        Place b s X J M (edged (record { graph = record { cores = set b.graph.cores k (set_of given.items (join_rows (state_at states k).core.rows given.rows)); start = b.graph.start; edge = b.graph.edge }; todo = set b.todo k true }) s X k)
    grown_place k h l =
        let f = lacks given.items (state_at states k).core.rows given.rows good.ascends (rows_fit k h.state h.same) good.count alike l in
        Place.grown k f.0 f.1 f.2 (set_of given.items (join_rows (state_at states k).core.rows given.rows)) (joins_state k h) ((is.looks f.0 f.1 f.2).1 f.3)
        (λ x. f.4 (subst (λ (i : ItemSet). HasLook i f.0 f.1 f.2) (core_with k h.same) x)) union
      where
        alike : (i : ℕ) → i < length given.items → length (row (state_at states k).core.rows i) ≡ length (row given.rows i)
        alike i lt = (all.cores k h.state).width i (let n = rows_fit k h.state h.same in omega (arith, lt, n)) ∙ sym (good.width i (let n = good.count in omega (arith, lt, n)))

        union : Is (set_of given.items (join_rows (state_at states k).core.rows given.rows)) J (Union (CoreLook b.graph k) M)
        union =
            let u = union_is given.items (state_at states k).core.rows given.rows good.ascends (rows_fit k h.state h.same) good.count alike in
            let same = core_with k h.same in
            record {
              items = same_on J (HasItem (set_of given.items (state_at states k).core.rows)) (HasItem (set_of given.items (join_rows (state_at states k).core.rows given.rows)))
                  (same_on J (HasItem (map_of given)) (HasItem (set_of given.items (state_at states k).core.rows)) is.items (one_core given.items given.rows (state_at states k).core.rows good.ascends good.count (rows_fit k h.state h.same))) u.items;
              looks = λ p d t. (
                λ x. (u.looks p d t).0 (elim x [ inl y ↦ inl (subst (λ (i : ItemSet). HasLook i p d t) same y) | inr z ↦ inr ((is.looks p d t).0 z) ]),
                λ x. elim ((u.looks p d t).1 x) [ inl y ↦ inl (subst (λ (i : ItemSet). HasLook i p d t) (sym same) y) | inr z ↦ inr ((is.looks p d t).1 z) ],
              );
            }

    -- the set is a new state
    pub added_place : JoinsNone states given →
        Place b s X J M (edged (record { graph = record { cores = b.graph.cores ++ map_of given ∷ []; start = b.graph.start; edge = b.graph.edge }; todo = b.todo ++ true ∷ [] }) s X (length b.graph.cores))
    added_place h = Place.added (map_of given) (λ k lt. stays_apart k (let n = count_is states b m in omega (arith, lt, n)) (h k (let n = count_is states b m in omega (arith, lt, n)))) is
