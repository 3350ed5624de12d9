-- The states that stay are the graph of the grammar.
use Rattle.std.proofs.Common.{◌≡◌, ℕ, ◌<◌, ◌≤◌, inl, inr, Bool, true, false, cond, List, [], ◌∷◌, length, get_or, map, Option, Some, None, refl, sym, ap, ◌∙◌, subst, subst₂, arith}
use Rattle.std.proofs.lemmas.Bool.{cases_eq, cases_lt}
use Rattle.std.proofs.lemmas.List.{get_or-map, length-map, get_or_past}
use Rattle.std.proofs.lemmas.List.Elements.{Contains-get_or}
use Rattle.cfg_theory.specs.Grammar.{Sym, Grammar, WellFormed}
use Rattle.lr_theory.specs.Graph.{Graph, Leads}
use Rattle.lr_theory.specs.Building.{Building, Pruned, IsGraph, same_symbol}
use Rattle.lr_theory.proofs.Building.{reached_sound, built_finished}
use Rattle.lrtable.specs.Handling.{AreBuilt}
use Rattle.state_table.specs.ItemRows.{Core, map_of, FitsCore}
use Rattle.lrtable.specs.States.{Edge, AscendEdges, StateValue, no_state, state_at, edge_in, edge_of, Matches}
use Rattle.state_table.specs.Graphs.{SymBefore}
use Rattle.lrtable.specs.Pruning.{graph_of_states, IsLed, AreLinked, renumbered, renumbered_state, IsCut}
use Rattle.lrtable.proofs.Placing.{core_is, count_is}
use Rattle.lrtable.proofs.Stepping.{reached_fits}

-- graphs of the same edges lead to the same states
pub leads_as : (g h : Graph) → g.start ≡ h.start → ((s : ℕ) (X : Sym) → g.edge s X ≡ h.edge s X) → {w : List Sym} {s : ℕ} → Leads g w s → Leads h w s
leads_as g h start edges (Leads.none e) = Leads.none (e ∙ start)
leads_as g h start edges (Leads.on {X = X} {s = s} l e) = Leads.on (leads_as g h start edges l) (sym (edges s X) ∙ e)

-- ---- edges to new numbers

abbrev relabel : List ℕ → Option ℕ → Option ℕ
relabel numbers None = None
relabel numbers (Some k) = Some (get_or numbers k 0)

edge_relabelled : (numbers : List ℕ) (es : List Edge) (X : Sym) → edge_in (map (renumbered numbers) es) X ≡ relabel numbers (edge_in es X)
edge_relabelled numbers [] X = refl
edge_relabelled numbers (e ∷ es) X = go (edge_relabelled numbers es X) (same_symbol X e.symbol)
  where
    go : edge_in (map (renumbered numbers) es) X ≡ relabel numbers (edge_in es X) → (b : Bool) → cond b (Some (get_or numbers e.target 0)) (edge_in (map (renumbered numbers) es) X) ≡ relabel numbers (cond b (Some e.target) (edge_in es X))
    go rest true = refl
    go rest false = rest

none_is : (j : ℕ) → None ≡ Some j → ⊥
none_is j q = cc

relabelled_from : (numbers : List ℕ) (old : Option ℕ) (j : ℕ) → relabel numbers old ≡ Some j → (k : ℕ) × (old ≡ Some k) × (get_or numbers k 0 ≡ j)
relabelled_from numbers None j h = absurd (none_is j h)
relabelled_from numbers (Some k) j h = (k, refl, cc)

-- edges that ascend still do
ascend_relabelled : (numbers : List ℕ) (es : List Edge) → AscendEdges es → AscendEdges (map (renumbered numbers) es)
ascend_relabelled numbers es a = λ i j d lt within.
    let m : j < length es = (let n = length-map es (renumbered numbers) in omega (arith, within, n)) in
    subst₂ SymBefore (symbol_at i d (omega (arith, lt, m))) (symbol_at j d m) (a i j d lt m)
  where
    symbol_at : (k : ℕ) (d : Edge) → k < length es → (get_or es k d).symbol ≡ (get_or (map (renumbered numbers) es) k d).symbol
    symbol_at k d lt = sym (ap (λ (e : Edge). e.symbol) (get_or-map (renumbered numbers) es k d d lt))

-- ---- the states that stay

module _ (old new : List StateValue) (linked : AreLinked old) (cut : IsCut old new) where
  abbrev was : ℕ → ℕ
  was i = get_or cut.kept i 0

  abbrev now : ℕ → ℕ
  now s = get_or cut.numbers s 0

  pub cut_count : length new ≡ length cut.kept
  cut_count = ap length cut.value ∙ length-map cut.kept (λ k. renumbered_state cut.numbers (state_at old k))

  state_is : (i : ℕ) → i < length cut.kept → state_at new i ≡ renumbered_state cut.numbers (state_at old (was i))
  state_is i lt = ap (λ (l : List StateValue). state_at l i) cut.value ∙ get_or-map (λ k. renumbered_state cut.numbers (state_at old k)) cut.kept i 0 no_state lt

  pub core_was : (i : ℕ) → i < length cut.kept → (state_at new i).core ≡ (state_at old (was i)).core
  core_was i lt = ap (λ (s : StateValue). s.core) (state_is i lt)

  led_here : (i : ℕ) → i < length cut.kept → IsLed old (was i)
  led_here i lt = cut.led (was i) (Contains-get_or cut.kept i 0 lt)

  edge_is : (i : ℕ) (X : Sym) → i < length cut.kept → edge_of new i X ≡ relabel cut.numbers (edge_of old (was i) X)
  edge_is i X lt = ap (λ (s : StateValue). edge_in s.edges X) (state_is i lt) ∙ edge_relabelled cut.numbers (state_at old (was i)).edges X

  -- two new numbers have two old ones
  one_number : (i j : ℕ) → i < length cut.kept → j < length cut.kept → was i ≡ was j → i ≡ j
  one_number i j li lj e = elim (cases_lt i j) [
    | inl lt ↦ (let a = cut.ascends i j 0 lt lj in absurd (omega (arith, a, e)))
    | inr ge ↦ elim (cases_eq i j) [ inl q ↦ q | inr ne ↦ (let a = cut.ascends j i 0 (omega (arith, ge, ne)) li in absurd (omega (arith, a, e))) ]
  ]

  led_on : (i k : ℕ) (X : Sym) → i < length cut.kept → edge_of old (was i) X ≡ Some k → IsLed old k
  led_on i k X lt e = let (w, l) = led_here i lt in (X ∷ w, Leads.on l e)

  -- an edge of a new state, in the old states
  edge_was : (i j : ℕ) (X : Sym) → i < length cut.kept → edge_of new i X ≡ Some j → (edge_of old (was i) X ≡ Some (was j)) × (j < length cut.kept)
  edge_was i j X lt e =
      let (k, at, q) = relabelled_from cut.numbers (edge_of old (was i) X) j (sym (edge_is i X lt) ∙ e) in
      let (l, back) = cut.number k (led_on i k X lt at) in
      (at ∙ ap Some (sym back ∙ ap was q), subst (λ n. n < length cut.kept) q l)

  edge_now : (i j : ℕ) (X : Sym) → i < length cut.kept → j < length cut.kept → edge_of old (was i) X ≡ Some (was j) → edge_of new i X ≡ Some j
  edge_now i j X li lj e =
      let (l, back) = cut.number (was j) (led_on i (was j) X li e) in
      edge_is i X li ∙ ap (relabel cut.numbers) e ∙ ap Some (one_number (now (was j)) j l lj back)

  -- an edge leaves a state
  edge_inside : (i j : ℕ) (X : Sym) → edge_of new i X ≡ Some j → i < length cut.kept
  edge_inside i j X e = elim (cases_lt i (length cut.kept)) [
    | inl lt ↦ lt
    | inr ge ↦ absurd (none_is j (sym (ap (λ (s : StateValue). edge_in s.edges X) (get_or_past new i no_state (let n = cut_count in omega (arith, ge, n)))) ∙ e))
  ]

  pub cut_linked : AreLinked new
  cut_linked = record {
    ascend = λ i lt. (let l : i < length cut.kept = (let n = cut_count in omega (arith, lt, n)) in
        subst (λ (s : StateValue). AscendEdges s.edges) (sym (state_is i l)) (ascend_relabelled cut.numbers (state_at old (was i)).edges (linked.ascend (was i) (old_state i l))));
    targets = λ i j X e. (let l = (edge_was i j X (edge_inside i j X e) e).1 in let n = cut_count in omega (arith, l, n));
  }
    where
      old_state : (i : ℕ) → i < length cut.kept → was i < length old
      old_state i lt = cut.within (was i) (Contains-get_or cut.kept i 0 lt)

  -- the first state stays the first
  first_is : (0 < length cut.kept) × (was 0 ≡ 0)
  first_is =
      let (lt, back) = cut.number 0 ([], Leads.none refl) in
      ((omega (arith, lt)), elim (cases_eq (now 0) 0) [ inl e ↦ subst (λ n. was n ≡ 0) e back | inr ne ↦ (let a = cut.ascends 0 (now 0) 0 (omega (arith, ne)) lt in absurd (omega (arith, a, back))) ])

  pub cut_some : 0 < length new
  cut_some = let f = first_is.0 in let n = cut_count in omega (arith, f, n)

  pub cut_few : length new ≤ length old
  cut_few = let f = cut.few in let n = cut_count in omega (arith, f, n)

  pub cut_pruned : (b : Building) → Matches old b → Pruned b.graph (graph_of_states new)
  cut_pruned b m = record {
    kept = cut.kept;
    size = sym cut_count ∙ sym (length-map new (λ s. map_of s.core));
    in_order = λ i j lt within. cut.ascends i j 0 lt within;
    led_to = λ i lt. let (w, l) = led_here i lt in (w, leads_as (graph_of_states old) b.graph (sym m.start) (λ s X. sym (m.edges s X)) l);
    all = λ w s l. let (lt, back) = cut.number s (w, leads_as b.graph (graph_of_states old) m.start m.edges l) in (now s, lt, back);
    start = (first_is.0, first_is.1 ∙ sym m.start);
    cores = λ i lt. get_or-map (λ (s : StateValue). map_of s.core) new i no_state [] (let n = cut_count in omega (arith, lt, n)) ∙ ap map_of (core_was i lt) ∙ sym (core_is old b (was i) m);
    edges = λ i j X li lj. (
      λ e. m.edges (was i) X ∙ (edge_was i j X li e).0,
      λ e. edge_now i j X li lj (sym (m.edges (was i) X) ∙ e),
    );
    targets = λ i j X lt e. (edge_was i j X lt e).1;
    outside = λ i j X e. edge_inside i j X e;
  }

-- ---- what the building ends with

module _ (G : Grammar) (good : WellFormed G) (states : List StateValue) (h : AreBuilt G states) where
  pub built_some : 0 < length states
  built_some = let s = (reached_sound G good h.built.reached).sound.start_state in let e = h.matches.start in let n = count_is states h.building h.matches in omega (arith, s, e, n)

  pub built_linked : AreLinked states
  built_linked = record { ascend = h.cores.edges; targets = λ s k X e. target s k X (h.matches.edges s X ∙ e) }
    where
      target : (s k : ℕ) (X : Sym) → h.building.graph.edge s X ≡ Some k → k < length states
      target s k X e =
          let (p, d, state, item, next) = (reached_sound G good h.built.reached).sound.no_other s k X e in
          let t = ((built_finished G good h.building h.built).covers s k X state e).state in
          let n = count_is states h.building h.matches in
          omega (arith, t, n)

  pub built_fits : (s : ℕ) → s < length states → FitsCore G (state_at states s).core
  built_fits s lt = reached_fits G states good (record { building = h.building; reached = h.built.reached; matches = h.matches; cores = h.cores }) s lt

  module _ (new : List StateValue) (cut : IsCut states new) where
    pub graph_cut : IsGraph G (graph_of_states new)
    graph_cut = record { building = h.building; built = h.built; pruned = cut_pruned states new built_linked cut h.building h.matches }

    pub fits_cut : (s : ℕ) → s < length new → FitsCore G (state_at new s).core
    fits_cut s lt =
        let l : s < length cut.kept = (let n = cut_count states new built_linked cut in omega (arith, lt, n)) in
        subst (λ (c : Core). FitsCore G c) (sym (core_was states new built_linked cut s l)) (built_fits (get_or cut.kept s 0) (cut.within (get_or cut.kept s 0) (Contains-get_or cut.kept s 0 l)))
