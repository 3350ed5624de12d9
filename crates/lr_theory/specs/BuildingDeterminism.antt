-- The moments of the building: what was done determines them, up to how the maps are kept.
use Rattle.std.specs.Prelude.{◌≡◌, ℕ, suc, ◌≤◌, length}
use Rattle.cfg_theory.specs.Grammar.{Grammar, WellFormed}
use Rattle.lr_theory.specs.Graph.{SameGraph}
use Rattle.lr_theory.specs.Building.{Building, Reached, Underway, Built}

-- the same states and edges, of which the same are to be taken, however the maps are kept
pub record SameBuilding (b c : Building) : Type 0 where
  pub graph : SameGraph b.graph c.graph
  pub todo : b.todo ≡ c.todo

-- how many steps were made
abbrev pub steps_made : {G : Grammar} {b : Building} → Reached G b → ℕ
steps_made (Reached.begin h) = 0
steps_made (Reached.step r s) = suc (steps_made r)

pub record MomentsAreUnique : Type 0 where
  -- after as many steps, and with the same symbols handled in the next one
  pub reached : (G : Grammar) (b c : Building) → WellFormed G → (x : Reached G b) (y : Reached G c) → steps_made x ≡ steps_made y → SameBuilding b c
  pub underway : (G : Grammar) (b c : Building) → WellFormed G → (x : Underway G b) (y : Underway G c) → steps_made x.reached ≡ steps_made y.reached →
      x.handled_symbols ≡ y.handled_symbols → SameBuilding b c
  -- at its end the building has as many states as at any moment, or more
  pub most_reached : (G : Grammar) (b c : Building) → WellFormed G → Built G b → Reached G c → length c.graph.cores ≤ length b.graph.cores
  pub most_underway : (G : Grammar) (b c : Building) → WellFormed G → Built G b → Underway G c → length c.graph.cores ≤ length b.graph.cores
