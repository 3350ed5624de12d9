-- Steps of the building over the states.
use Rattle.std.proofs.Common.{◌≡◌, ℕ, zero, suc, ◌+◌, ◌<◌, ◌≤◌, inl, inr, Bool, true, false, None, map, List, [], ◌∷◌, ◌++◌, length, get_or, take, drop, refl, sym, ap, ◌∙◌, subst, arith, length-append, ap₂, ◌-◌, ◌*◌}
use Rattle.std.proofs.lemmas.List.{take_more, take_all, take-append-drop, get_or_past, get_or-map, length-map}
use Rattle.cfg_theory.specs.Grammar.{Sym, Grammar, IsNext, WellFormed}
use Rattle.lr_theory.specs.Itemset.{ItemSet, HasItem, HasLook, Closure, ClosureLook, Goto, GotoLook, StartItem, StartLook, Is}
use Rattle.lr_theory.specs.Graph.{core_of}
use Rattle.lr_theory.specs.Building.{Building, Place, Handled, Reached, Underway, IsTodo, taken, symbols, Step}
use Rattle.state_table.specs.ItemRows.{Core, IsCoreOf, map_of}
use Rattle.lrtable.specs.States.{StateValue, no_state, state_at, edge_of, AscendEdges, Matches, IsPlaced, JoinsNone}
use Rattle.lrtable.proofs.Placing.{edged, added_place, count_is}
use Rattle.std.proofs.lemmas.Bool.{cases_lt}
use Rattle.lr_theory.specs.BuildingMeasure.{look_limit, progress, todo_count, left_to_do}
use Rattle.lr_theory.proofs.BuildingMeasure.{steps_lessen}
use Rattle.lr_theory.proofs.BuildingSteps.{place_as, handled_on}
use Rattle.lrtable.specs.Handling.{AreReached, AreHandled, AreBuilt, TooManyStand, left_in}

-- the symbol at the index `count` isn't after a dot, or its set was placed
module _ (G : Grammar) (before : Building) (s count : ℕ) (states : List StateValue) (h : AreHandled G before s count states) (X : Sym) (lt : count < length (symbols G)) (at : get_or (symbols G) count X ≡ X) where
  next : take (count + 1) (symbols G) ≡ take count (symbols G) ++ X ∷ []
  next = take_more (symbols G) count X lt ∙ ap (λ Y. take count (symbols G) ++ Y ∷ []) at

  pub skipped : ((p d : ℕ) → Closure G (HasItem (core_of before.graph s)) p d → IsNext G p d X → ⊥) → AreHandled G before s (count + 1) states
  skipped none = record {
    building = h.building;
    handled = subst (λ l. Handled G s (core_of before.graph s) l (taken before s) h.building) (sym next) (handled_on G s (core_of before.graph s) (take count (symbols G)) (X ∷ []) (taken before s) h.building h.building h.handled (Handled.absent none Handled.done));
    matches = h.matches;
    cores = h.cores;
  }

  pub placed_next : (new : List StateValue) (set : Core) (p d : ℕ) → Closure G (HasItem (core_of before.graph s)) p d → IsNext G p d X → IsCoreOf G.tokens set →
      Is (map_of set) (Goto G (Closure G (HasItem (core_of before.graph s))) X) (GotoLook G (ClosureLook G (HasItem (core_of before.graph s)) (HasLook (core_of before.graph s))) X) →
      IsPlaced states s X set new → AreHandled G before s (count + 1) new
  placed_next new set p d item is_next good is placed =
      let (c, pl, m) = placed.placed h.building h.matches in
      let place = place_as (HasItem (map_of set)) (Goto G (Closure G (HasItem (core_of before.graph s))) X) (HasLook (map_of set)) (GotoLook G (ClosureLook G (HasItem (core_of before.graph s)) (HasLook (core_of before.graph s))) X)
      (λ q e. ((is.items q e).1, (is.items q e).0)) (λ q e t. ((is.looks q e t).1, (is.looks q e t).0)) h.building s X c pl in
      record {
        building = c;
        handled = subst (λ l. Handled G s (core_of before.graph s) l (taken before s) c) (sym next) (handled_on G s (core_of before.graph s) (take count (symbols G)) (X ∷ []) (taken before s) h.building c h.handled (Handled.placed p d item is_next place Handled.done));
        matches = m;
        cores = placed.states_stay G.tokens h.cores good;
      }

-- all symbols are handled: a step was made
pub stepped : (G : Grammar) (before : Building) (s : ℕ) (states : List StateValue) (count : ℕ) → Reached G before → IsTodo before s → ((r : ℕ) → r < s → IsTodo before r → ⊥) → length (symbols G) ≤ count → AreHandled G before s count states → AreReached G states
stepped G before s states count reached todo lowest le h = record {
  building = h.building;
  reached = Reached.step reached (record { state = s; todo = todo; first = lowest; handled = subst (λ l. Handled G s (core_of before.graph s) l (taken before s) h.building) (take_all count (symbols G) le) h.handled });
  matches = h.matches;
  cores = h.cores;
}

-- a moment within a step
pub underway : (G : Grammar) (before : Building) (s : ℕ) (states : List StateValue) (count : ℕ) → Reached G before → IsTodo before s → ((r : ℕ) → r < s → IsTodo before r → ⊥) → (h : AreHandled G before s count states) → Underway G h.building
underway G before s states count reached todo lowest h = record {
  before = before;
  reached = reached;
  state = s;
  todo = todo;
  first = lowest;
  handled_symbols = take count (symbols G);
  symbols_left = drop count (symbols G);
  in_order = take-append-drop count (symbols G);
  handled = h.handled;
}

-- a set that joins no state, made within a step where already so many states stand
pub too_many : (G : Grammar) (before : Building) (s : ℕ) (states : List StateValue) (count : ℕ) (X : Sym) (given : Core) (p d limit : ℕ) → Reached G before → IsTodo before s → ((r : ℕ) → r < s → IsTodo before r → ⊥) →
    AreHandled G before s count states → count < length (symbols G) → get_or (symbols G) count X ≡ X → Closure G (HasItem (core_of before.graph s)) p d → IsNext G p d X → IsCoreOf G.tokens given →
    Is (map_of given) (Goto G (Closure G (HasItem (core_of before.graph s))) X) (GotoLook G (ClosureLook G (HasItem (core_of before.graph s)) (HasLook (core_of before.graph s))) X) →
    JoinsNone states given → limit ≤ length states → TooManyStand G limit
too_many G before s states count X given p d limit reached todo lowest h lt at item is_next good is none full =
    let b = h.building in
    let I = Goto G (Closure G (HasItem (core_of before.graph s))) X in
    let L = GotoLook G (ClosureLook G (HasItem (core_of before.graph s)) (HasLook (core_of before.graph s))) X in
    let c : Building = edged (record { graph = record { cores = b.graph.cores ++ map_of given ∷ []; start = b.graph.start; edge = b.graph.edge }; todo = b.todo ++ true ∷ [] }) s X (length b.graph.cores) in
    let place : Place b s X I L c = added_place G.tokens states b h.matches h.cores I L given good is s X none in
    let more = take_more (symbols G) count X lt ∙ ap (λ Y. take count (symbols G) ++ Y ∷ []) at in
    record {
      moment = c;
      underway = record {
        before = before;
        reached = reached;
        state = s;
        todo = todo;
        first = lowest;
        handled_symbols = take (count + 1) (symbols G);
        symbols_left = drop (count + 1) (symbols G);
        in_order = take-append-drop (count + 1) (symbols G);
        handled = subst (λ l. Handled G s (core_of before.graph s) l (taken before s) c) (sym more) (handled_on G s (core_of before.graph s) (take count (symbols G)) (X ∷ []) (taken before s) b c h.handled (Handled.placed p d item is_next place Handled.done));
      };
      past = (let n = length-append b.graph.cores (map_of given ∷ []) in let m = count_is states b h.matches in omega (arith, n, m, full));
    }

-- the start state alone
pub begun : (G : Grammar) (start : Core) → IsCoreOf G.tokens start → Is (map_of start) (StartItem G) (StartLook G) → AreReached G (record { core = start; edges = []; todo = true } ∷ [])
begun G start good is = record {
  building = record { graph = record { cores = map_of start ∷ []; start = 0; edge = λ s X. None }; todo = true ∷ [] };
  reached = Reached.begin (record { core = map_of start; cores = refl; is = is; start = refl; no_edge = λ s X. refl; todo = refl });
  matches = record { cores = refl; start = refl; edges = λ s X. no_edge s X; todo = refl };
  cores = record { cores = λ s lt. one s lt; edges = λ s lt. unlinked s };
}
  where
    states : List StateValue
    states = record { core = start; edges = []; todo = true } ∷ []

    no_edge : (s : ℕ) (X : Sym) → None ≡ edge_of states s X
    no_edge zero X = refl
    no_edge (suc s) X = refl

    unlinked : (s : ℕ) → AscendEdges (state_at states s).edges
    unlinked zero = λ i j d lt within. absurd (omega (arith, within))
    unlinked (suc s) = λ i j d lt within. absurd (omega (arith, within))

    one : (s : ℕ) → s < length states → IsCoreOf G.tokens (state_at states s).core
    one zero lt = good
    one (suc s) lt = absurd (omega (arith, lt))

-- no state is to be taken: the building is at its end
pub at_end : (G : Grammar) (states : List StateValue) → AreReached G states → ((s : ℕ) → s < length states → (state_at states s).todo ≡ false) → AreBuilt G states
at_end G states h none = record { building = h.building; built = record { reached = h.reached; nothing_left = λ s t. left s t }; matches = h.matches; cores = h.cores }
  where
    never : false ≡ true → ⊥
    never e = cc

    todo_at : (s : ℕ) → get_or h.building.todo s false ≡ (state_at states s).todo
    todo_at s = ap (λ l. get_or l s false) h.matches.todo ∙ elim (cases_lt s (length states)) [
      | inl lt ↦ get_or-map (λ (x : StateValue). x.todo) states s no_state false lt
      | inr ge ↦ get_or_past (map (λ (x : StateValue). x.todo) states) s false (let n = length-map states (λ x. x.todo) in omega (arith, ge, n)) ∙ sym (ap (λ (x : StateValue). x.todo) (get_or_past states s no_state ge))
    ]

    left : (s : ℕ) → IsTodo h.building s → ⊥
    left s t = elim (cases_lt s (length states)) [ inl lt ↦ never (sym (none s lt) ∙ sym (todo_at s) ∙ t) | inr ge ↦ never (sym (ap (λ (x : StateValue). x.todo) (get_or_past states s no_state ge)) ∙ sym (todo_at s) ∙ t) ]

-- ---- the measure

pub left_is : (G : Grammar) (limit : ℕ) (states : List StateValue) (b : Building) → Matches states b → left_to_do G limit b ≡ left_in G limit states
unfolding left_to_do
left_is G limit states b m = ap₂ (λ (cores : List ItemSet) (todo : List Bool). (limit * suc (look_limit G) - progress G cores) * suc limit + todo_count todo) m.cores m.todo

-- a step lessens what is left
pub left_falls : (G : Grammar) (limit : ℕ) (before after : Building) (old new : List StateValue) → WellFormed G → Reached G before → Step G before after → Matches old before → Matches new after → length new ≤ limit →
    left_in G limit new < left_in G limit old
left_falls G limit before after old new good reached step m n few =
    let lt = steps_lessen.lessens G limit before after good reached step (let c = count_is new after n in omega (arith, c, few)) in
    let x = left_is G limit new after n in
    let y = left_is G limit old before m in
    omega (arith, lt, x, y)

-- so it does for the states, where all symbols are handled
pub stepped_less : (G : Grammar) (limit : ℕ) (before : Building) (s : ℕ) (old new : List StateValue) (count : ℕ) → WellFormed G → Reached G before → IsTodo before s → ((r : ℕ) → r < s → IsTodo before r → ⊥) → length (symbols G) ≤ count → AreHandled G before s count new →
    Matches old before → length new ≤ limit → left_in G limit new < left_in G limit old
stepped_less G limit before s old new count good reached todo lowest le h m few =
    left_falls G limit before h.building old new good reached (record { state = s; todo = todo; first = lowest; handled = subst (λ l. Handled G s (core_of before.graph s) l (taken before s) h.building) (take_all count (symbols G) le) h.handled }) m h.matches few
