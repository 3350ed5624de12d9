-- The states of a building as a graph, and what is left of it where edges lead.
use Rattle.std.specs.Prelude.{◌≡◌, ℕ, ◌+◌, ◌<◌, ◌≤◌, ◌⊎◌, ◌↔◌, Bool, IsTrue, List, length, map, get_or, Some}
use Rattle.std.specs.List.{Contains, AllPairs}
use Rattle.cfg_theory.specs.Grammar.{Sym}
use Rattle.vob.specs.Sets.{is_set, missing}
use Rattle.lr_theory.specs.Graph.{Graph, Leads}
use Rattle.state_table.specs.ItemRows.{map_of}
use Rattle.lrtable.specs.States.{Edge, AscendEdges, StateValue, state_at, edge_of}

-- the graph of states, of which the first is the start state
abbrev pub graph_of_states : List StateValue → Graph
graph_of_states states = record { cores = map (λ s. map_of s.core) states; start = 0; edge = λ s X. edge_of states s X }

-- edges lead to the state from the first
abbrev pub IsLed : List StateValue → ℕ → Type 0
IsLed states s = (w : List Sym) × Leads (graph_of_states states) w s

-- edges ascend, and lead to states
pub record AreLinked (states : List StateValue) : Type 0 where
  pub ascend : (s : ℕ) → s < length states → AscendEdges (state_at states s).edges
  pub targets : (s k : ℕ) (X : Sym) → edge_of states s X ≡ Some k → k < length states

abbrev pub IsTargetOf : List Edge → ℕ → Type 0
IsTargetOf es s = (e : Edge) × Contains es e × (e.target ≡ s)

-- flags were set for states of N alone
pub record Flagged (N : ℕ → Type 0) (old new : List Bool) : Type 0 where
  pub size : length new ≡ length old
  pub only : (s : ℕ) → IsTrue (is_set new s) → IsTrue (is_set old s) ⊎ N s

-- the states of N were marked, and those that weren't before wait
pub record Marks (N : ℕ → Type 0) (old new : List Bool) (was now : List ℕ) : Type 0 where
  pub size : length new ≡ length old
  pub flags : (s : ℕ) → IsTrue (is_set new s) ↔ (IsTrue (is_set old s) ⊎ N s)
  pub told : (s : ℕ) → IsTrue (is_set new s) → IsTrue (is_set old s) ⊎ Contains now s
  pub still : (s : ℕ) → Contains was s → Contains now s
  pub only : (s : ℕ) → Contains now s → Contains was s ⊎ IsTrue (is_set new s)
  pub fewer : missing new + length now ≤ missing old + length was

-- how far the marking has come: each marked state waits, or its targets are marked
pub record AreMarking (states : List StateValue) (marked : List Bool) (waiting : List ℕ) : Type 0 where
  pub size : length marked ≡ length states
  pub start : IsTrue (is_set marked 0)
  pub led : (s : ℕ) → IsTrue (is_set marked s) → IsLed states s
  pub waits : (s : ℕ) → Contains waiting s → IsTrue (is_set marked s)
  pub closed : (s : ℕ) → IsTrue (is_set marked s) → Contains waiting s ⊎ ((k : ℕ) → IsTargetOf (state_at states s).edges k → IsTrue (is_set marked k))

-- the marked ones of the first so many states in order, and for each of these states how many marked ones stand before it
pub record AreNumbered (flags : List Bool) (count : ℕ) (kept numbers : List ℕ) : Type 0 where
  pub size : length numbers ≡ count
  pub few : length kept ≤ count
  pub low : (s : ℕ) → get_or numbers s 0 ≤ length kept
  pub ascends : AllPairs (λ j k. j < k) kept
  pub marked : (k : ℕ) → Contains kept k → (k < count) × IsTrue (is_set flags k)
  pub number : (s : ℕ) → s < count → IsTrue (is_set flags s) → (get_or numbers s 0 < length kept) × (get_or kept (get_or numbers s 0) 0 ≡ s)

-- an edge to the new number of its target, and a state with such edges
abbrev pub renumbered : List ℕ → Edge → Edge
renumbered numbers e = record { symbol = e.symbol; target = get_or numbers e.target 0 }

abbrev pub renumbered_state : List ℕ → StateValue → StateValue
renumbered_state numbers s = record { core = s.core; edges = map (renumbered numbers) s.edges; todo = s.todo }

-- the new states are those of the old that edges lead to, in order, with edges to their new numbers
pub record IsCut (old new : List StateValue) : Type 0 where
  -- the old number of each new state, and the new number of each old one that stays
  pub kept : List ℕ
  pub numbers : List ℕ
  pub few : length kept ≤ length old
  pub ascends : AllPairs (λ j k. j < k) kept
  pub within : (k : ℕ) → Contains kept k → k < length old
  pub led : (k : ℕ) → Contains kept k → IsLed old k
  pub number : (s : ℕ) → IsLed old s → (get_or numbers s 0 < length kept) × (get_or kept (get_or numbers s 0) 0 ≡ s)
  pub value : new ≡ map (λ k. renumbered_state numbers (state_at old k)) kept
