-- What was placed, in each building that the states stand for.
use Rattle.std.proofs.Common.{◌≡◌, ℕ, suc, ◌<◌, inl, inr, ◌||◌, Bool, true, false, cond, Some, List, [], ◌∷◌, ◌++◌, length, set, sym, ap, ◌∙◌, subst, arith, length-set, length-append, get_or-set_same, get_or-set_other}
use Rattle.std.proofs.lemmas.Bool.{cases_eq, cases_lt}
use Rattle.std.proofs.lemmas.List.{get_or_append_left}
use Rattle.std.proofs.Math.Seq.{get_or-append_seam}
use Rattle.cfg_theory.specs.Grammar.{Sym}
use Rattle.lr_theory.specs.Itemset.{HasItem, HasLook, Is}
use Rattle.lr_theory.specs.Building.{Building, same_symbol}
use Rattle.state_table.specs.ItemRows.{Core, IsCoreOf, map_of, set_of, join_rows, CoversRows, LacksRows}
use Rattle.state_table.specs.Meeting.{row}
use Rattle.lrtable.specs.States.{Edge, StateValue, no_state, state_at, edge_in, edge_of, AscendEdges, Matches, AreStates, IsLinked, IsPlaced, JoinsAt, JoinsNone, grown_at}
use Rattle.vob.proofs.Bits.{length-bitwise}
use Rattle.lrtable.proofs.CoreSets.{length_join, row_join}
use Rattle.lrtable.proofs.Buckets.{keeps_kept, keeps_grown, adds_added}
use Rattle.lrtable.proofs.EdgePlaces.{edges_grown}
use Rattle.lrtable.proofs.Placing.{edged, edge_put, grown_matches, added_matches, kept_place, grown_place, added_place, count_is}

own_map : (c : Core) → Is (map_of c) (HasItem (map_of c)) (HasLook (map_of c))
own_map c = record { items = λ p d. (λ x. x, λ x. x); looks = λ p d t. (λ x. x, λ x. x) }

no_edges : AscendEdges []
no_edges i j d lt within = absurd (omega (arith, within))

-- an edge leaves the cores as they are
linked_states : (tokens : ℕ) (states new : List StateValue) (s : ℕ) (X : Sym) (k : ℕ) → s < length states → AreStates tokens states → IsLinked states s X k new → AreStates tokens new
linked_states tokens states new s X k lt all l = subst (AreStates tokens) (sym l.value) (record { cores = λ r lr. core r (within r lr); edges = λ r lr. in_order r (within r lr) })
  where
    put : List StateValue
    put = set states s (record { core = (state_at states s).core; edges = l.edges; todo = (state_at states s).todo })

    within : (r : ℕ) → r < length put → r < length states
    within r lr = omega (arith, lr, length-set states s (record { core = (state_at states s).core; edges = l.edges; todo = (state_at states s).todo }))

    in_order : (r : ℕ) → r < length states → AscendEdges (state_at put r).edges
    in_order r lr = elim (cases_eq r s) [
      | inl e ↦ subst (λ (es : List Edge). AscendEdges es) (sym (ap (λ n. (state_at put n).edges) e ∙ ap (λ (x : StateValue). x.edges) (get_or-set_same states s (record { core = (state_at states s).core; edges = l.edges; todo = (state_at states s).todo }) no_state lt))) (l.put.ascends (all.edges s lt))
      | inr ne ↦ subst (λ (es : List Edge). AscendEdges es) (sym (ap (λ (x : StateValue). x.edges) (get_or-set_other states s r (record { core = (state_at states s).core; edges = l.edges; todo = (state_at states s).todo }) no_state ne))) (all.edges r lr)
    ]

    core : (r : ℕ) → r < length states → IsCoreOf tokens (state_at put r).core
    core r lr = elim (cases_eq r s) [
      | inl e ↦ subst (λ (c : Core). IsCoreOf tokens c) (sym (ap (λ n. (state_at put n).core) e ∙ ap (λ (x : StateValue). x.core) (get_or-set_same states s (record { core = (state_at states s).core; edges = l.edges; todo = (state_at states s).todo }) no_state lt))) (all.cores s lt)
      | inr ne ↦ subst (λ (c : Core). IsCoreOf tokens c) (sym (ap (λ (x : StateValue). x.core) (get_or-set_other states s r (record { core = (state_at states s).core; edges = l.edges; todo = (state_at states s).todo }) no_state ne))) (all.cores r lr)
    ]

linked_length : (states new : List StateValue) (s : ℕ) (X : Sym) (k : ℕ) → IsLinked states s X k new → length new ≡ length states
linked_length states new s X k l = ap length l.value ∙ length-set states s (record { core = (state_at states s).core; edges = l.edges; todo = (state_at states s).todo })

linked_matches : (states new : List StateValue) (b : Building) (s : ℕ) (X : Sym) (k : ℕ) → s < length states → Matches states b → IsLinked states s X k new → Matches new (edged b s X k)
linked_matches states new b s X k lt m l = subst (λ n. Matches n (edged b s X k)) (sym l.value) (edge_put states b s X k l.edges m lt l.put)

-- rows that are joined
joined_core : (tokens : ℕ) (c d : Core) → IsCoreOf tokens c → IsCoreOf tokens d → c.items ≡ d.items → IsCoreOf tokens (record { items = c.items; rows = join_rows c.rows d.rows })
joined_core tokens c d h k e = record {
  ascends = h.ascends;
  count = length_join c.rows d.rows ∙ h.count;
  width = λ i lt. width i (omega (arith, lt, length_join c.rows d.rows));
}
  where
    many : length d.rows ≡ length c.rows
    many = k.count ∙ ap length (sym e) ∙ sym h.count

    width : (i : ℕ) → i < length c.rows → length (row (join_rows c.rows d.rows) i) ≡ tokens
    width i lt = ap length (row_join c.rows d.rows i many lt) ∙ length-bitwise (λ x y. x || y) (row c.rows i) (row d.rows i) (h.width i lt ∙ sym (k.width i (let m = many in omega (arith, m, lt)))) ∙ h.width i lt

grown_states : (tokens : ℕ) (states : List StateValue) (k : ℕ) (given : Core) → AreStates tokens states → IsCoreOf tokens given → JoinsAt states k given → AreStates tokens (grown_at states k given.rows)
grown_states tokens states k given all good h = record { cores = λ r lr. core r (omega (arith, lr, length-set states k new)); edges = λ r lr. in_order r (omega (arith, lr, length-set states k new)) }
  where
    new : StateValue
    new = record { core = record { items = (state_at states k).core.items; rows = join_rows (state_at states k).core.rows given.rows }; edges = (state_at states k).edges; todo = true }

    in_order : (r : ℕ) → r < length states → AscendEdges (state_at (set states k new) r).edges
    in_order r lr = elim (cases_eq r k) [
      | inl e ↦ subst (λ (es : List Edge). AscendEdges es) (sym (ap (λ n. (state_at (set states k new) n).edges) e ∙ ap (λ (x : StateValue). x.edges) (get_or-set_same states k new no_state h.state))) (all.edges k h.state)
      | inr ne ↦ subst (λ (es : List Edge). AscendEdges es) (sym (ap (λ (x : StateValue). x.edges) (get_or-set_other states k r new no_state ne))) (all.edges r lr)
    ]

    core : (r : ℕ) → r < length states → IsCoreOf tokens (state_at (set states k new) r).core
    core r lr = elim (cases_eq r k) [
      | inl e ↦ subst (λ (c : Core). IsCoreOf tokens c) (sym (ap (λ n. (state_at (set states k new) n).core) e ∙ ap (λ (x : StateValue). x.core) (get_or-set_same states k new no_state h.state))) (joined_core tokens (state_at states k).core given (all.cores k h.state) good h.same)
      | inr ne ↦ subst (λ (c : Core). IsCoreOf tokens c) (sym (ap (λ (x : StateValue). x.core) (get_or-set_other states k r new no_state ne))) (all.cores r lr)
    ]

-- and the edges on other symbols
linked_edge : (states new : List StateValue) (s : ℕ) (X : Sym) (k : ℕ) → s < length states → IsLinked states s X k new → (Y : Sym) → same_symbol Y X ≡ false → edge_of new s Y ≡ edge_of states s Y
linked_edge states new s X k lt l Y ne =
    ap (λ (u : List StateValue). edge_of u s Y) l.value ∙ (ap (λ (x : StateValue). edge_in x.edges Y) (get_or-set_same states s (record { core = (state_at states s).core; edges = l.edges; todo = (state_at states s).todo }) no_state lt) ∙
    (l.put.at Y ∙ ap (λ (b : Bool). cond b (Some k) (edge_in (state_at states s).edges Y)) ne))

module _ (tokens : ℕ) (states : List StateValue) (s : ℕ) (X : Sym) (given : Core) (lt : s < length states) (all : AreStates tokens states) (good : IsCoreOf tokens given) where
  -- the set joined a state that has its lookaheads
  pub placed_kept : (k : ℕ) (mid new : List StateValue) → JoinsAt states k given → CoversRows (state_at states k).core.rows given.rows → mid ≡ states → IsLinked mid s X k new → IsPlaced states s X given new
  placed_kept k mid new h c e linked = record {
    placed = λ b m. (edged b s X k, kept_place tokens states b m all (HasItem (map_of given)) (HasLook (map_of given)) given good (own_map given) s X k h c, linked_matches states new b s X k lt m l);
    states_stay = λ n a g. linked_states n states new s X k lt a l;
    more = (let n = linked_length states new s X k l in omega (arith, n));
    edges = linked_edge states new s X k lt l;
    items = (keeps_kept states mid new s X k lt e linked).items;
  }
    where
      l : IsLinked states s X k new
      l = subst (λ u. IsLinked u s X k new) e linked

  -- it joined one that grew by it
  pub placed_grown : (k : ℕ) (mid new : List StateValue) → JoinsAt states k given → LacksRows (state_at states k).core.rows given.rows → mid ≡ grown_at states k given.rows → IsLinked mid s X k new → IsPlaced states s X given new
  placed_grown k mid new h c e linked = record {
    placed = λ b m. (
      edged (record { graph = record { cores = set b.graph.cores k (set_of given.items (join_rows (state_at states k).core.rows given.rows)); start = b.graph.start; edge = b.graph.edge }; todo = set b.todo k true }) s X k,
      grown_place tokens states b m all (HasItem (map_of given)) (HasLook (map_of given)) given good (own_map given) s X k h c,
      linked_matches (grown_at states k given.rows) new _ s X k in_grown (subst (λ i. Matches (grown_at states k given.rows) (record { graph = record { cores = set b.graph.cores k (set_of i (join_rows (state_at states k).core.rows given.rows)); start = b.graph.start; edge = b.graph.edge }; todo = set b.todo k true })) h.same
          (grown_matches states b k (record { items = (state_at states k).core.items; rows = join_rows (state_at states k).core.rows given.rows }) m h.state)) l,
    );
    states_stay = λ n a g. linked_states n (grown_at states k given.rows) new s X k in_grown (grown_states n states k given a g h) l;
    more = (let n = linked_length (grown_at states k given.rows) new s X k l in let z = size in omega (arith, n, z));
    edges = λ Y ne. linked_edge (grown_at states k given.rows) new s X k in_grown l Y ne ∙ ap (λ (es : List Edge). edge_in es Y) (edges_grown states k s given.rows h.state);
    items = (keeps_grown states mid new s X k k given.rows lt h.state e linked).items;
  }
    where
      size : length (grown_at states k given.rows) ≡ length states
      size = length-set states k (record { core = record { items = (state_at states k).core.items; rows = join_rows (state_at states k).core.rows given.rows }; edges = (state_at states k).edges; todo = true })

      in_grown : s < length (grown_at states k given.rows)
      in_grown = let z = size in omega (arith, z, lt)

      l : IsLinked (grown_at states k given.rows) s X k new
      l = subst (λ u. IsLinked u s X k new) e linked

  -- it became a state
  pub placed_added : (k : ℕ) (mid new : List StateValue) → k ≡ length states → JoinsNone states given → mid ≡ states ++ record { core = given; edges = []; todo = true } ∷ [] → IsLinked mid s X k new → IsPlaced states s X given new
  placed_added k mid new q h e linked = record {
    placed = λ b m. (
      edged (record { graph = record { cores = b.graph.cores ++ map_of given ∷ []; start = b.graph.start; edge = b.graph.edge }; todo = b.todo ++ true ∷ [] }) s X (length b.graph.cores),
      added_place tokens states b m all (HasItem (map_of given)) (HasLook (map_of given)) given good (own_map given) s X h,
      subst (λ n. Matches new (edged (record { graph = record { cores = b.graph.cores ++ map_of given ∷ []; start = b.graph.start; edge = b.graph.edge }; todo = b.todo ++ true ∷ [] }) s X n)) (q ∙ sym (count_is states b m))
          (linked_matches more_states new _ s X k in_more (added_matches states b given m) l),
    );
    states_stay = λ n a g. linked_states n more_states new s X k in_more (record { cores = λ r lr. core n a g r lr; edges = λ r lr. in_order n a r lr }) l;
    more = (let n = linked_length more_states new s X k l in let z = size in omega (arith, n, z));
    edges = λ Y ne. linked_edge more_states new s X k in_more l Y ne ∙ ap (λ (x : StateValue). edge_in x.edges Y) (get_or_append_left states (last ∷ []) no_state s lt);
    items = (adds_added states mid new s X k given lt e linked).old;
  }
    where
      last : StateValue
      last = record { core = given; edges = []; todo = true }

      more_states : List StateValue
      more_states = states ++ last ∷ []

      size : length more_states ≡ suc (length states)
      size = length-append states (last ∷ []) ∙ (omega arith)

      in_more : s < length more_states
      in_more = let z = size in omega (arith, z, lt)

      l : IsLinked more_states s X k new
      l = subst (λ u. IsLinked u s X k new) e linked

      in_order : (n : ℕ) → AreStates n states → (r : ℕ) → r < length more_states → AscendEdges (state_at more_states r).edges
      in_order n a r lr = elim (cases_lt r (length states)) [
        | inl x ↦ subst (λ (v : StateValue). AscendEdges v.edges) (sym (get_or_append_left states (last ∷ []) no_state r x)) (a.edges r x)
        | inr ge ↦ subst (λ (v : StateValue). AscendEdges v.edges) (sym (ap (state_at more_states) (let z = size in omega (arith, ge, lr, z)) ∙ get_or-append_seam states last [] no_state)) no_edges
      ]

      core : (n : ℕ) → AreStates n states → IsCoreOf n given → (r : ℕ) → r < length more_states → IsCoreOf n (state_at more_states r).core
      core n a g r lr = elim (cases_lt r (length states)) [
        | inl x ↦ subst (λ (v : StateValue). IsCoreOf n v.core) (sym (get_or_append_left states (last ∷ []) no_state r x)) (a.cores r x)
        | inr ge ↦ subst (λ (v : StateValue). IsCoreOf n v.core) (sym (ap (state_at more_states) (let z = size in omega (arith, ge, lr, z)) ∙ get_or-append_seam states last [] no_state)) g
      ]
