-- The states of a finished building as a state graph.
use Rattle.std.proofs.Common.{◌≡◌, ℕ, zero, suc, ◌+◌, ◌<◌, ◌≤◌, inl, inr, cond, List, [], ◌∷◌, ◌++◌, length, get_or, map, take, Option, Some, None, refl, sym, ap, ◌∙◌, subst, subst₂, arith}
use Rattle.std.specs.Prelude.{All}
use Rattle.std.proofs.lemmas.Bool.{cases_eq, cases_lt}
use Rattle.std.proofs.lemmas.List.{get_or_past, map_push, take_more, get_or-map, get_or_default, get_or_append_left, get_or_push, length-map, length_push}
use Rattle.cfg_theory.specs.Grammar.{Sym, Grammar, body_of, WellFormed}
use Rattle.lr_theory.specs.Building.{Pruned, IsGraph, same_symbol}
use Rattle.lr_theory.specs.Canonical.{Present}
use Rattle.lr_theory.specs.Graph.{Graph}
use Rattle.lr_theory.specs.Itemset.{ItemSet, HasItem, FitsGrammar}
use Rattle.lr_theory.proofs.GraphLaws.{finished_law}
use Rattle.state_table.specs.GraphViews.{edge_seen, edges_seen}
use Rattle.state_table.specs.Graphs.{GraphValue, target_in, graph_of, AreInOrder, IsGraphValue, IsGraphOf, SymBefore}
use Rattle.lrtable.specs.FinalStates.{IsClosure, IsClosureBeside, AreClosures, AreFinal, pair_of_edge, edge_pairs_of}
use Rattle.lrtable.specs.Pruning.{graph_of_states}
use Rattle.vob.specs.Packed.{Contents}
use Rattle.state_table.specs.declared.cores.CoreSet.{CoreSet}
use Rattle.state_table.specs.declared.shared_sets.SharedSets.{SharedSets}
use Rattle.lrtable.specs.declared.states.State.{State}
use Rattle.state_table.specs.ItemRows.{Core, Ascends, IsCoreOf, map_of}
use Rattle.state_table.specs.Meeting.{rows_in}
use Rattle.state_table.specs.Sharing.{shared_core, PointIn, IsShared}
use Rattle.state_table.specs.CoreViews.{item_of, core_of_set}
use Rattle.lrtable.specs.StateViews.{EdgeTo, edge_of_pair, edges_of, value_of}
use Rattle.lrtable.specs.States.{Edge, AscendEdges, StateValue, edge_in, edge_of, state_at, no_state}
use Rattle.state_table.specs.GraphViews.{closures_seen}
use Rattle.state_table.proofs.EdgeLists.{found_at}
use Rattle.state_table.proofs.GraphClosures.{closures_length, closure_is}
use Rattle.lrtable.proofs.Exact.{dot_within}
use Rattle.state_table.proofs.Fitting.{fits_by}

-- ---- edges

target_is : (es : List Edge) (X : Sym) → target_in (map pair_of_edge es) X ≡ edge_in es X
target_is [] X = refl
target_is (e ∷ es) X = ap (λ (o : Option ℕ). cond (same_symbol X e.symbol) (Some e.target) o) (target_is es X)

map_any : {X Y : Type 0} (f : X → Y) (xs : List X) (i : ℕ) (d : X) → get_or (map f xs) i (f d) ≡ f (get_or xs i d)
map_any f [] i d = refl
map_any f (x ∷ xs) zero d = refl
map_any f (x ∷ xs) (suc i) d = map_any f xs i d

pub edge_is : (states : List StateValue) (s : ℕ) (X : Sym) → target_in (get_or (map edge_pairs_of states) s []) X ≡ edge_of states s X
edge_is states s X = ap (λ (l : List (Sym × ℕ)). target_in l X) (map_any edge_pairs_of states s no_state) ∙ target_is (state_at states s).edges X

pairs_ascend : (es : List Edge) → AscendEdges es → AreInOrder (map pair_of_edge es)
pairs_ascend es a = λ i j d lt within.
    (let n = length-map es pair_of_edge in
    let x : Edge = record { symbol = d.0; target = d.1 } in
    subst₂ (λ (e f : Sym × ℕ). SymBefore e.0 f.0) (sym (map_any pair_of_edge es i x)) (sym (map_any pair_of_edge es j x)) (a i j x lt (omega (arith, within, n))))

module _ (G : Grammar) (states : List StateValue) (final : AreFinal G states) (s : ℕ) where
  pub final_ascend : AreInOrder (get_or (map edge_pairs_of states) s [])
  final_ascend = subst AreInOrder (sym (map_any edge_pairs_of states s no_state)) (elim (cases_lt s (length states)) [
    | inl lt ↦ pairs_ascend (state_at states s).edges (final.linked.ascend s lt)
    | inr ge ↦ subst (λ (x : StateValue). AreInOrder (map pair_of_edge x.edges)) (sym (get_or_past states s no_state ge)) (λ i j d lt within. absurd (omega (arith, within)))
  ])

  pub final_targets : All (λ e. e.1 < length states) (get_or (map edge_pairs_of states) s [])
  final_targets = λ k d lt. final.linked.targets s (get_or (get_or (map edge_pairs_of states) s []) k d).1 (get_or (get_or (map edge_pairs_of states) s []) k d).0 (sym (edge_is states s (get_or (get_or (map edge_pairs_of states) s []) k d).0) ∙ found_at (get_or (map edge_pairs_of states) s []) k d final_ascend lt)

-- ---- a graph with the same cores and edges is the grammar's too

pruned_as : (old new other : Graph) → other.cores ≡ new.cores → other.start ≡ new.start → ((s : ℕ) (X : Sym) → other.edge s X ≡ new.edge s X) → Pruned old new → Pruned old other
pruned_as old new other cores start edge h = record {
  kept = h.kept;
  size = h.size ∙ ap length (sym cores);
  in_order = h.in_order;
  led_to = h.led_to;
  all = h.all;
  start = subst (λ s. (s < length h.kept) × (get_or h.kept s 0 ≡ old.start)) (sym start) h.start;
  cores = λ i lt. ap (λ (l : List ItemSet). get_or l i []) cores ∙ h.cores i lt;
  edges = λ i j X li lj. (λ q. (h.edges i j X li lj).0 (sym (edge i X) ∙ q), λ q. edge i X ∙ (h.edges i j X li lj).1 q);
  targets = λ i j X li q. h.targets i j X li (sym (edge i X) ∙ q);
  outside = λ i j X q. h.outside i j X (sym (edge i X) ∙ q);
}

graph_as : (G : Grammar) (new other : Graph) → other.cores ≡ new.cores → other.start ≡ new.start → ((s : ℕ) (X : Sym) → other.edge s X ≡ new.edge s X) → IsGraph G new → IsGraph G other
graph_as G new other cores start edge h = record { building = h.building; built = h.built; pruned = pruned_as h.building.graph new other cores start edge h.pruned }

-- ---- items of a finished graph are the grammar's

module _ (G : Grammar) (good : WellFormed G) where
  present_in_range : {w : List Sym} {p d : ℕ} → Present G w p d → p < length G.productions
  present_in_range (Present.start e) = let lt = good.start_of.in_range in omega (arith, lt, e)
  present_in_range (Present.moved h n) = present_in_range h
  present_in_range (Present.opened h n o) = o.in_range

  present_dot : {w : List Sym} {p d : ℕ} → Present G w p d → d ≤ length (body_of G p)
  present_dot (Present.start e) = omega arith
  present_dot (Present.moved {p = p} {d = d} {X = X} h n) = let lt = dot_within G p d X n in omega (arith, lt)
  present_dot (Present.opened h n o) = omega arith

  module _ (states : List StateValue) (final : AreFinal G states) (s : ℕ) (lt : s < length states) where
    item_present : (p d : ℕ) → HasItem (map_of (state_at states s).core) p d → (w : List Sym) × Present G w p d
    item_present p d h =
        let n = length-map states (λ (x : StateValue). map_of x.core) in
        let tied = (finished_law.finished G (graph_of_states states) good final.graph).ties s (omega (arith, lt, n)) in
        let is : get_or (map (λ (x : StateValue). map_of x.core) states) s [] ≡ map_of (state_at states s).core = map_any (λ (x : StateValue). map_of x.core) states s no_state in
        (tied.reached.0, tied.reached.1.present p d (subst (λ (m : ItemSet). HasItem m p d) (sym is) h))

    pub final_fits : FitsGrammar G (map_of (state_at states s).core)
    final_fits = fits_by G (state_at states s).core (final.cores s lt).good (λ p d h. present_in_range (item_present p d h).1) (λ p d h. present_dot (item_present p d h).1)

  -- ---- the whole graph

  pub final_graph : (states : List StateValue) (g : GraphValue) → AreFinal G states → g.cores ≡ map (λ s. map_of s.core) states → g.start ≡ 0 → g.edges ≡ map edge_pairs_of states → AreClosures G g.cores g.closed → IsGraphOf G g
  final_graph states g final cores start edges closed = record {
    graph = graph_as G (graph_of_states states) (graph_of g) cores start (λ s X. ap (λ (l : List (List (Sym × ℕ))). target_in (get_or l s []) X) edges ∙ edge_is states s X) final.graph;
    closes = closed.count;
    closed = λ s lt. (closed.each s lt).is;
    fits = (
      λ s d lt. (
          let n = length-map states (λ (x : StateValue). map_of x.core) in
          let m = ap length cores in
          let within : s < length states = omega (arith, lt, m, n) in
          let is : get_or g.cores s d ≡ map_of (state_at states s).core = get_or_default g.cores s d [] lt ∙ ap (λ (l : List ItemSet). get_or l s []) cores ∙ map_any (λ (x : StateValue). map_of x.core) states s no_state in
          subst (FitsGrammar G) (sym is) (final_fits states final s within)),
      λ s d lt. subst (FitsGrammar G) (get_or_default g.closed s [] d lt) (closed.each s (let m = closed.count in omega (arith, lt, m))).fit,
    );
    lists = ap length edges ∙ length-map states edge_pairs_of ∙ sym (ap length cores ∙ length-map states (λ (x : StateValue). map_of x.core));
    ascend = λ s. subst (λ (l : List (List (Sym × ℕ))). AreInOrder (get_or l s [])) (sym edges) (final_ascend G states final s);
    start = start;
  }

  pub final_value : (top : ℕ) (states : List StateValue) (g : GraphValue) → length states ≤ top → AreFinal G states → g.cores ≡ map (λ s. map_of s.core) states → g.start ≡ 0 → g.edges ≡ map edge_pairs_of states → AreClosures G g.cores g.closed → IsGraphValue top g
  final_value top states g few final cores start edges closed =
      let n = ap length cores ∙ length-map states (λ (x : StateValue). map_of x.core) in
      let some = final.some in
      record {
        closed = closed.count;
        edges = ap length edges ∙ length-map states edge_pairs_of ∙ sym n;
        few = omega (arith, few, n);
        start = omega (arith, start, n, some);
        targets = λ s. subst₂ (λ (l : List (List (Sym × ℕ))) (m : ℕ). All (λ e. e.1 < m) (get_or l s [])) (sym edges) (sym n) (final_targets G states final s);
        ascend = λ s. subst (λ (l : List (List (Sym × ℕ))). AreInOrder (get_or l s [])) (sym edges) (final_ascend G states final s);
      }

-- ---- closures, one after another

-- those of the first n states
pub record ClosesFirst (G : Grammar) (states : List StateValue) (n : ℕ) (closed : List (Option ItemSet)) : Type 0 where
  pub count : length closed ≡ n
  pub each : (s : ℕ) → s < n → IsClosureBeside G (map_of (state_at states s).core) (get_or closed s None)

pub closes_next : (G : Grammar) (states : List StateValue) (n : ℕ) (old new : List (Option ItemSet)) (c : Core) (o : Option ItemSet) → ClosesFirst G states n old → new ≡ old ++ o ∷ [] → (state_at states n).core ≡ c → IsClosureBeside G (map_of c) o → ClosesFirst G states (n + 1) new
closes_next G states n old new c o h e core is = record {
  count = ap length e ∙ length_push old o ∙ ap (λ m. m + 1) h.count;
  each = λ s lt. elim (cases_eq s n) [
    | inl q ↦ subst (λ m. IsClosureBeside G (map_of (state_at states m).core) (get_or new m None)) (sym q)
        (subst₂ (λ (x : Option ItemSet) (d : Core). IsClosureBeside G (map_of d) x) (sym (ap (λ (l : List (Option ItemSet)). get_or l n None) e ∙ get_or_push old o None n h.count)) (sym core) is)
    | inr ne ↦ subst (IsClosureBeside G (map_of (state_at states s).core))
        (sym (ap (λ (l : List (Option ItemSet)). get_or l s None) e ∙ get_or_append_left old (o ∷ []) None s (let k = h.count in omega (arith, lt, ne, k)))) (h.each s (omega (arith, lt, ne)))
  ];
}

pub closes_all : (G : Grammar) (states : List StateValue) (n : ℕ) (closed : List (Option ItemSet)) → ClosesFirst G states n closed → n ≡ length states → AreClosures G (map (λ s. map_of s.core) states) (closures_seen (map (λ s. map_of s.core) states) closed)
closes_all G states n closed h e =
    let cores = map (λ (x : StateValue). map_of x.core) states in
    let m = length-map states (λ (x : StateValue). map_of x.core) in
    let k = h.count in
    let both = closures_length cores closed in
    record {
      count = omega (arith, both, m, k, e);
      each = λ s lt. subst (IsClosure G (get_or cores s [])) (sym (closure_is cores closed s [] lt (omega (arith, lt, m, k, e))))
          (subst (λ (x : ItemSet). IsClosureBeside G x (get_or closed s None)) (sym (map_any (λ (x : StateValue). map_of x.core) states s no_state)) (h.each s (omega (arith, lt, m, e))));
    }

-- ---- states as a program keeps them

module _ {S : Type 0} (number : S → ℕ) (xs : List (State S)) (k : ℕ) (x : State S) (lt : k < length xs) where
  pub state_is : state_at (map (value_of number) xs) k ≡ value_of number (get_or xs k x)
  state_is = get_or-map (value_of number) xs k x no_state lt

  pub core_is : (state_at (map (value_of number) xs) k).core ≡ core_of_set number (get_or xs k x).core
  core_is = ap (λ (s : StateValue). s.core) state_is

pub core_counts : {S : Type 0} (number : S → ℕ) (tokens : ℕ) (c : CoreSet S) → IsCoreOf tokens (core_of_set number c) → length c.looks.items ≡ length c.items.items
core_counts number tokens c good = sym (length-map c.looks.items (λ (v : Contents). v.bits)) ∙ good.count ∙ length-map c.items.items (item_of number)

pub core_shared : {S : Type 0} (number : S → ℕ) (tokens : ℕ) (c : Core) (s : SharedSets S) → IsCoreOf tokens c → shared_core number s ≡ c → PointIn (rows_in s.sets.items) s.entries.items → IsShared number s
core_shared number tokens c s good e within = record { ascends = subst (λ (x : Core). Ascends x.items) (sym e) good.ascends; within = within }

pub mapped_next : {X Y Z : Type 0} (f : Y → Z) (h : X → Y) (xs : List X) (k : ℕ) (x : X) → k < length xs → map f (map h (take (k + 1) xs)) ≡ map f (map h (take k xs)) ++ f (h (get_or xs k x)) ∷ []
mapped_next f h xs k x lt = ap (λ l. map f (map h l)) (take_more xs k x lt) ∙ ap (map f) (map_push h (take k xs) (get_or xs k x)) ∙ map_push f (map h (take k xs)) (h (get_or xs k x))

-- what the first states have, and the next
pub mapped_state : {S Z : Type 0} (f : StateValue → Z) (number : S → ℕ) (xs : List (State S)) (k : ℕ) → k < length xs →
    map f (map (value_of number) (take (k + 1) xs)) ≡ map f (map (value_of number) (take k xs)) ++ f (state_at (map (value_of number) xs) k) ∷ []
mapped_state f number [] k lt = absurd (omega (arith, lt))
mapped_state f number (x ∷ xs) k lt = mapped_next f (value_of number) (x ∷ xs) k x lt ∙
    ap (λ (s : StateValue). map f (map (value_of number) (take k (x ∷ xs))) ++ f s ∷ []) (sym (get_or-map (value_of number) (x ∷ xs) k x no_state lt))

-- edges as a graph has them
pub pairs_seen : {S : Type 0} (number : S → ℕ) (es : List (EdgeTo S)) → edges_seen number es ≡ map pair_of_edge (edges_of number es)
pairs_seen number [] = refl
pairs_seen number (e ∷ es) = ap (λ (l : List (Sym × ℕ)). edge_seen number e ∷ l) (pairs_seen number es)
