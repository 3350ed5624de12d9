-- The states of a finished building, of which a state graph is made.
use Rattle.std.specs.Prelude.{◌≡◌, ℕ, ◌<◌, List, [], length, map, get_or, All, Option}
use Rattle.std.specs.Option.{unwrap_or}
use Rattle.cfg_theory.specs.Grammar.{Sym, Grammar}
use Rattle.lr_theory.specs.Building.{IsGraph}
use Rattle.lr_theory.specs.Itemset.{ItemSet, HasItem, HasLook, Closure, ClosureLook, Is, FitsGrammar}
use Rattle.lrtable.specs.Pruning.{AreLinked, graph_of_states}
use Rattle.lrtable.specs.States.{Edge, StateValue, state_at}
use Rattle.state_table.specs.ItemRows.{FitsCore}

-- the closure of a core, as a list of items of the grammar
pub record IsClosure (G : Grammar) (core closed : ItemSet) : Type 0 where
  pub is : Is closed (Closure G (HasItem core)) (ClosureLook G (HasItem core) (HasLook core))
  pub fit : FitsGrammar G closed

-- the closure of a core, or none of a core that is its own closure
abbrev pub IsClosureBeside : Grammar → ItemSet → Option ItemSet → Type 0
IsClosureBeside G core closed = IsClosure G core (unwrap_or closed core)

-- the closures of the cores
pub record AreClosures (G : Grammar) (cores closed : List ItemSet) : Type 0 where
  pub count : length closed ≡ length cores
  pub each : (s : ℕ) → s < length cores → IsClosure G (get_or cores s []) (get_or closed s [])

-- the edges of a state as pairs
abbrev pub pair_of_edge : Edge → Sym × ℕ
pair_of_edge e = (e.symbol, e.target)

abbrev pub edge_pairs_of : StateValue → List (Sym × ℕ)
edge_pairs_of s = map pair_of_edge s.edges

-- states that are the graph of the grammar
pub record AreFinal (G : Grammar) (states : List StateValue) : Type 0 where
  pub graph : IsGraph G (graph_of_states states)
  pub linked : AreLinked states
  pub cores : (s : ℕ) → s < length states → FitsCore G (state_at states s).core
  pub some : 0 < length states
