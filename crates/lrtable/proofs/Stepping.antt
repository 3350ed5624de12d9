-- A step of the building: what its loop over ranks keeps.
use Rattle.std.proofs.Common.{◌≡◌, ℕ, suc, ◌+◌, ◌-◌, ◌<◌, ◌≤◌, inl, inr, Bool, true, false, List, [], ◌∷◌, length, get_or, set, map, Some, refl, sym, ap, ◌∙◌, subst, arith, length-set, get_or-set_same, get_or-set_other}
use Rattle.std.specs.Prelude.{slice_get}
use Rattle.std.proofs.lemmas.Bool.{cases_eq, cases_lt}
use Rattle.std.proofs.lemmas.List.{get_or_past, get_or-map, length-map, map-set, get_or_default}
use Rattle.cfg_theory.specs.Grammar.{Sym, rule, token, Grammar, InRange, IsNext, WellFormed, Production, body_of}
use Rattle.lr_theory.specs.Canonical.{Present}
use Rattle.lr_theory.specs.Itemset.{Items, Lookaheads, ItemSet, HasItem, HasLook, Closure, ClosureLook, Goto, GotoLook, Is}
use Rattle.lr_theory.specs.Graph.{core_of}
use Rattle.lr_theory.specs.Building.{Building, Handled, taken, symbols}
use Rattle.lr_theory.proofs.GraphLaws.{building_law}
use Rattle.state_table.specs.ItemRows.{no_core, Item, Core, IsCoreOf, map_of, FitsCore}
use Rattle.lrtable.specs.Gaining.{core_in}
use Rattle.lrtable.specs.Handling.{rank, AreReached, AreHandled, TooManyStand, left_in}
use Rattle.lrtable.specs.MovedItems.{IsKernel}
use Rattle.lrtable.specs.States.{StateValue, no_state, state_at, edge_in, edge_of, AscendEdges, Matches, AreStates, IsPlaced, JoinsNone, AreBuckets}
use Rattle.lrtable.proofs.Buckets.{buckets_kept}
use Rattle.lrtable.specs.Stepping.{AreGotos, AreGotosOf, IsGotoAt, IsNextTaken, set_off}
use Rattle.vob.proofs.Bits.{set_same}
use Rattle.lrtable.proofs.Handling.{skipped, placed_next, too_many, stepped, stepped_less}
use Rattle.state_table.proofs.ItemSets.{has_item, nought, at_own}
use Rattle.lrtable.proofs.Placing.{core_is, count_is}
use Rattle.lrtable.proofs.Ranks.{rank_at, rank_below, symbol_count}
use Rattle.state_table.proofs.Fitting.{no_items}

none_stands : (body : List Sym) (d : ℕ) (X : Sym) → body ≡ [] → slice_get body d ≡ Some X → ⊥
none_stands [] d X e h = cc
none_stands (Y ∷ body) d X e h = cc

-- a production of which a symbol stands behind a dot
pub next_in_range : (G : Grammar) (p d : ℕ) (X : Sym) → IsNext G p d X → p < length G.productions
unfolding body_of
next_in_range G p d X n = elim (cases_lt p (length G.productions)) [
  | inl lt ↦ lt
  | inr ge ↦ absurd (none_stands (body_of G p) d X (ap (λ (q : Production). q.body) (get_or_past G.productions p (record { head = 0; body = [] }) ge)) n.at)
]

-- so it is of each item that moves
moved_in_range : (G : Grammar) (I : Items) (X : Sym) (p d : ℕ) → Goto G I X p d → p < length G.productions
moved_in_range G I X p d g = go g
  where
    go : {p d : ℕ} → Goto G I X p d → p < length G.productions
    go (Goto.moved {p} {d} i n) = next_in_range G p d X n

pub goto_fits : (G : Grammar) (I : Items) (L : Lookaheads) (X : Sym) (c : Core) → IsCoreOf G.tokens c → Is (map_of c) (Goto G I X) (GotoLook G L X) → FitsCore G c
goto_fits G I L X c good is = record {
  good = good;
  productions = λ k d lt.
      let at = at_own c.items k lt in
      let h = (has_item c.items c.rows good.ascends good.count (get_or c.items k nought).production (get_or c.items k nought).dot).1 (k, at) in
      let g = (is.items (get_or c.items k nought).production (get_or c.items k nought).dot).1 h in
      subst (λ (i : Item). i.production < length G.productions) (get_or_default c.items k nought d lt) (moved_in_range G I X (get_or c.items k nought).production (get_or c.items k nought).dot g);
}

-- the set of each rank
pub sets_fit : (G : Grammar) (I : Items) (L : Lookaheads) (sets : List Core) → AreGotos G I L sets → (X : Sym) → InRange G X → (n : ℕ) → rank G X ≡ n → FitsCore G (core_in sets n)
sets_fit G I L sets h X r n e = subst (λ m. FitsCore G (core_in sets m)) e (goto_fits G I L X (core_in sets (rank G X)) (h.good (rank G X) (let lt = rank_below G X r in let c = h.count in omega (arith, lt, c))) (h.is X r))

-- an item of the goto set
some_item : (G : Grammar) (c : Core) → IsCoreOf G.tokens c → 0 < length c.items → (p : ℕ) × (d : ℕ) × HasItem (map_of c) p d
some_item G c good lt = ((get_or c.items 0 nought).production, (get_or c.items 0 nought).dot, (has_item c.items c.rows good.ascends good.count (get_or c.items 0 nought).production (get_or c.items 0 nought).dot).1 (0, at_own c.items 0 lt))

module _ (G : Grammar) (before : Building) (s n : ℕ) (X : Sym) (range : InRange G X) (at : rank G X ≡ n) (c : Core) (is : IsGotoAt G before s n c) (states : List StateValue) (h : AreHandled G before s n states) where
  here : get_or (symbols G) n X ≡ X
  here = ap (λ m. get_or (symbols G) m X) (sym at) ∙ rank_at G X range

  lt : n < length (symbols G)
  lt = let e = symbol_count G in let b = rank_below G X range in omega (arith, e, b, at)

  moves_from : {p d : ℕ} → Goto G (Closure G (HasItem (core_of before.graph s))) X p d → (q : ℕ) × (e : ℕ) × Closure G (HasItem (core_of before.graph s)) q e × IsNext G q e X
  moves_from (Goto.moved {p} {d} i k) = (p, d, i, k)

  -- no item stands before the symbol
  pub rank_skipped : length c.items ≡ 0 → AreHandled G before s (n + 1) states
  rank_skipped none = skipped G before s n states h X lt here (λ p d i k. empty c none p (suc d) (((is.is X range at).items p (suc d)).0 (Goto.moved i k)))
    where
      empty : (c : Core) → length c.items ≡ 0 → (p d : ℕ) → HasItem (map_of c) p d → ⊥
      empty c e p d x = no_item c.items c.rows e p d x
        where
          no_item : (items : List Item) (rows : List (List Bool)) → length items ≡ 0 → (p d : ℕ) → HasItem (map_of (record { items = items; rows = rows })) p d → ⊥
          no_item [] rows e p d x = no_items p d x
          no_item (i ∷ items) rows e p d x = omega (arith, e)

  -- its set was placed
  pub rank_placed : (new : List StateValue) → IsCoreOf G.tokens c → 0 < length c.items → IsPlaced states s X c new → AreHandled G before s (n + 1) new
  rank_placed new good some placed =
      let (p, d, x) = some_item G c good some in
      let (q, e, i, k) = moves_from (((is.is X range at).items p d).1 x) in
      placed_next G before s n states h X lt here new c q e i k good (is.is X range at) placed

  -- or stands for one state too many
  pub rank_refused : (limit : ℕ) → IsNextTaken G before s → IsCoreOf G.tokens c → 0 < length c.items → JoinsNone states c → limit ≤ length states → TooManyStand G limit
  rank_refused limit next good some none full =
      let (p, d, x) = some_item G c good some in
      let (q, e, i, k) = moves_from (((is.is X range at).items p d).1 x) in
      too_many G before s states n X c q e limit next.reached next.todo next.lowest h lt here i k good (is.is X range at) none full

-- ---- the state that is taken

present_in_range : (G : Grammar) → WellFormed G → {w : List Sym} {p d : ℕ} → Present G w p d → p < length G.productions
present_in_range G good (Present.start e) = let lt = good.start_of.in_range in omega (arith, lt, e)
present_in_range G good (Present.moved h n) = present_in_range G good h
present_in_range G good (Present.opened h n o) = o.in_range

-- the core of a state is of the grammar
pub reached_fits : (G : Grammar) (states : List StateValue) → WellFormed G → AreReached G states → (s : ℕ) → s < length states → FitsCore G (state_at states s).core
reached_fits G states good h s lt = record {
  good = fits;
  productions = λ k d within.
      let at = at_own c.items k within in
      let x = (has_item c.items c.rows fits.ascends fits.count (get_or c.items k nought).production (get_or c.items k nought).dot).1 (k, at) in
      let y = subst (λ (i : ItemSet). HasItem i (get_or c.items k nought).production (get_or c.items k nought).dot) (sym (core_is states h.building s h.matches)) x in
      let tied = (building_law.reached G h.building good h.reached).each s (let n = count_is states h.building h.matches in omega (arith, lt, n)) in
      subst (λ (i : Item). i.production < length G.productions) (get_or_default c.items k nought d within) (present_in_range G good (tied.reached.1.present (get_or c.items k nought).production (get_or c.items k nought).dot y));
}
  where
    c : Core
    c = (state_at states s).core

    fits : IsCoreOf G.tokens c
    fits = h.cores.cores s lt

-- it has but the start production at dot nought
pub reached_kernel : (G : Grammar) (states : List StateValue) → WellFormed G → AreReached G states → (s : ℕ) → s < length states → IsKernel G (HasItem (map_of (state_at states s).core))
reached_kernel G states good h s lt = λ p x.
    let y = subst (λ (i : ItemSet). HasItem i p 0) (sym (core_is states h.building s h.matches)) x in
    let tied = (building_law.reached G h.building good h.reached).each s (let n = count_is states h.building h.matches in omega (arith, lt, n)) in
    tied.reached.1.core p 0 y

module _ (states : List StateValue) (b : Building) (s : ℕ) (m : Matches states b) (lt : s < length states) where
  abbrev off : StateValue
  off = record { core = (state_at states s).core; edges = (state_at states s).edges; todo = false }

  kept : (r : ℕ) (Y : Sym) → edge_of (set_off states s) r Y ≡ edge_of states r Y
  kept r Y = elim (cases_eq r s) [
    | inl e ↦ ap (λ n. edge_of (set_off states s) n Y) e ∙ ap (λ (x : StateValue). edge_in x.edges Y) (get_or-set_same states s off no_state lt) ∙ ap (λ n. edge_of states n Y) (sym e)
    | inr ne ↦ ap (λ (x : StateValue). edge_in x.edges Y) (get_or-set_other states s r off no_state ne)
  ]

  pub off_matches : Matches (set_off states s) (taken b s)
  off_matches = record {
    cores = m.cores ∙ sym (map-set (λ x. map_of x.core) states s off ∙ set_same (map (λ x. map_of x.core) states) s (map_of off.core) (map_of no_state.core) (omega (arith, lt, length-map states (λ x. map_of x.core))) (sym (get_or-map (λ (x : StateValue). map_of x.core) states s no_state (map_of no_state.core) lt)));
    start = m.start;
    edges = λ r Y. m.edges r Y ∙ sym (kept r Y);
    todo = ap (λ l. set l s false) m.todo ∙ sym (map-set (λ x. x.todo) states s off);
  }

  pub off_states : (tokens : ℕ) → AreStates tokens states → AreStates tokens (set_off states s)
  off_states tokens h = record {
    cores = λ k l. elim (cases_eq k s) [
      | inl e ↦ subst (λ (x : StateValue). IsCoreOf tokens x.core) (sym (ap (λ n. state_at (set_off states s) n) e ∙ get_or-set_same states s off no_state lt)) (h.cores s lt)
      | inr ne ↦ subst (λ (x : StateValue). IsCoreOf tokens x.core) (sym (get_or-set_other states s k off no_state ne)) (h.cores k (let n = length-set states s off in omega (arith, l, n)))
    ];
    edges = λ k l. elim (cases_eq k s) [
      | inl e ↦ subst (λ (x : StateValue). AscendEdges x.edges) (sym (ap (λ n. state_at (set_off states s) n) e ∙ get_or-set_same states s off no_state lt)) (h.edges s lt)
      | inr ne ↦ subst (λ (x : StateValue). AscendEdges x.edges) (sym (get_or-set_other states s k off no_state ne)) (h.edges k (let n = length-set states s off in omega (arith, l, n)))
    ];
  }

  pub none_handled : (G : Grammar) → AreStates G.tokens states → AreHandled G b s 0 (set_off states s)
  none_handled G h = record { building = taken b s; handled = Handled.done; matches = off_matches; cores = off_states G.tokens h }

-- which states are to be taken
pub todo_at : (states : List StateValue) (b : Building) → Matches states b → (s : ℕ) → get_or b.todo s false ≡ (state_at states s).todo
todo_at states b m s = ap (λ l. get_or l s false) m.todo ∙ elim (cases_lt s (length states)) [
  | inl lt ↦ get_or-map (λ (x : StateValue). x.todo) states s no_state false lt
  | inr ge ↦ get_or_past (map (λ (x : StateValue). x.todo) states) s false (let n = length-map states (λ x. x.todo) in omega (arith, ge, n)) ∙ sym (ap (λ (x : StateValue). x.todo) (get_or_past states s no_state ge))
]

pub next_taken : (G : Grammar) (states : List StateValue) (h : AreReached G states) (s : ℕ) → (state_at states s).todo ≡ true → ((r : ℕ) → r < s → (state_at states r).todo ≡ false) → IsNextTaken G h.building s
next_taken G states h s todo lowest = record {
  reached = h.reached;
  todo = todo_at states h.building h.matches s ∙ todo;
  lowest = λ r lt x. never (sym (lowest r lt) ∙ sym (todo_at states h.building h.matches r) ∙ x);
}
  where
    never : false ≡ true → ⊥
    never e = cc

-- the goto sets of the state's core are those of the state
pub gotos_of : (G : Grammar) (states : List StateValue) (b : Building) (s : ℕ) (sets : List Core) → Matches states b →
    AreGotos G (Closure G (HasItem (map_of (state_at states s).core))) (ClosureLook G (HasItem (map_of (state_at states s).core)) (HasLook (map_of (state_at states s).core))) sets → AreGotosOf G b s sets
gotos_of G states b s sets m h = subst (λ (i : ItemSet). AreGotos G (Closure G (HasItem i)) (ClosureLook G (HasItem i) (HasLook i)) sets) (sym (core_is states b s m)) h

pub goto_at : (G : Grammar) (b : Building) (s : ℕ) (sets : List Core) → AreGotosOf G b s sets → (n : ℕ) → IsGotoAt G b s n (core_in sets n)
goto_at G b s sets h n = record { is = λ X r e. subst (λ m. Is (map_of (core_in sets m)) (Goto G (Closure G (HasItem (core_of b.graph s))) X) (GotoLook G (ClosureLook G (HasItem (core_of b.graph s)) (HasLook (core_of b.graph s))) X)) e (h.is X r) }

-- ---- the loop over ranks

-- what is left of the sets after one was taken out
pub rest_next : (first sets new : List Core) (n : ℕ) → new ≡ set sets n no_core → ((k : ℕ) → n ≤ k → core_in sets k ≡ core_in first k) → (k : ℕ) → n + 1 ≤ k → core_in new k ≡ core_in first k
rest_next first sets new n e h k le = ap (λ l. core_in l k) e ∙ get_or-set_other sets n k no_core no_core (let ne : k ≡ n → ⊥ = λ q. omega (arith, le, q) in ne) ∙ h k (omega (arith, le))

pub next_handled : (G : Grammar) (before : Building) (from n : ℕ) (first sets : List Core) (states new : List StateValue) → ((k : ℕ) → n ≤ k → core_in sets k ≡ core_in first k) →
    ((b : Building) → IsGotoAt G b from n (core_in sets n) → AreHandled G b from n states → AreHandled G b from (n + 1) new) → AreGotosOf G before from first → AreHandled G before from n states → AreHandled G before from (n + 1) new
next_handled G before from n first sets states new rest step gotos h = step before (subst (IsGotoAt G before from n) (sym (rest n (omega arith))) (goto_at G before from first gotos n)) h

-- ---- the step

-- each set of the step is of the grammar
pub all_fit : (G : Grammar) (I : Items) (L : Lookaheads) (sets : List Core) → AreGotos G I L sets → (n : ℕ) → n < G.rules + G.tokens → FitsCore G (core_in sets n)
all_fit G I L sets h n lt = elim (cases_lt n G.rules) [
  | inl l ↦ sets_fit G I L sets h (rule n) l n refl
  | inr ge ↦ sets_fit G I L sets h (token (n - G.rules)) (omega (arith, lt, ge)) n (let e : G.rules + (n - G.rules) ≡ n = omega (arith, ge) in e)
]

pub step_reached : (G : Grammar) (old new : List StateValue) (s : ℕ) (h : AreReached G old) → s < length old → (state_at old s).todo ≡ true → ((r : ℕ) → r < s → (state_at old r).todo ≡ false) → AreHandled G h.building s (G.rules + G.tokens) new → AreReached G new
step_reached G old new s h lt todo low x =
    let n = next_taken G old h s todo low in
    stepped G h.building s new (G.rules + G.tokens) n.reached n.todo n.lowest (let e = symbol_count G in omega (arith, e)) x

pub step_less : (G : Grammar) (limit : ℕ) (old new : List StateValue) (s : ℕ) (h : AreReached G old) → WellFormed G → (state_at old s).todo ≡ true → ((r : ℕ) → r < s → (state_at old r).todo ≡ false) → AreHandled G h.building s (G.rules + G.tokens) new → length new ≤ limit →
    left_in G limit new < left_in G limit old
step_less G limit old new s h good todo low x few =
    let n = next_taken G old h s todo low in
    stepped_less G limit h.building s old new (G.rules + G.tokens) good n.reached n.todo n.lowest (let e = symbol_count G in omega (arith, e)) x h.matches few

-- a rank whose set has no items
pub skip_rank : (G : Grammar) (before : Building) (s n : ℕ) (c : Core) → IsGotoAt G before s n c → (states : List StateValue) → AreHandled G before s n states → n < G.rules + G.tokens → length c.items ≡ 0 → AreHandled G before s (n + 1) states
skip_rank G before s n c is states h lt none = elim (cases_lt n G.rules) [
  | inl l ↦ rank_skipped G before s n (rule n) l refl c is states h none
  | inr ge ↦ rank_skipped G before s n (token (n - G.rules)) (omega (arith, lt, ge)) (let e : G.rules + (n - G.rules) ≡ n = omega (arith, ge) in e) c is states h none
]

-- a state that isn't to be taken keeps its items
pub off_buckets : (states : List StateValue) (s : ℕ) (buckets : List (List (List ℕ))) → s < length states → AreBuckets states buckets → AreBuckets (set_off states s) buckets
off_buckets states s buckets lt h = buckets_kept states (set_off states s) buckets (record {
  count = length-set states s (record { core = (state_at states s).core; edges = (state_at states s).edges; todo = false });
  items = λ k l. elim (cases_eq k s) [
    | inl e ↦ ap (λ n. (state_at (set_off states s) n).core.items) e ∙ ap (λ (x : StateValue). x.core.items) (get_or-set_same states s (record { core = (state_at states s).core; edges = (state_at states s).edges; todo = false }) no_state lt) ∙ ap (λ n. (state_at states n).core.items) (sym e)
    | inr ne ↦ ap (λ (x : StateValue). x.core.items) (get_or-set_other states s k (record { core = (state_at states s).core; edges = (state_at states s).edges; todo = false }) no_state ne)
  ];
}) h
