-- How large a building grows, and how many cells a table has.
use Rattle.std.specs.Prelude.{ℕ, ◌+◌, ◌*◌, ◌<◌, ◌≤◌, length}
use Rattle.cfg_theory.specs.Grammar.{Grammar, WellFormed}
use Rattle.lr_theory.specs.Graph.{Graph}
use Rattle.lr_theory.specs.Building.{Building, Underway, Built}

-- at some moment of the building more than top states stand
pub record GrowsPast (G : Grammar) (top : ℕ) : Type 0 where
  pub moment : Building
  pub underway : Underway G moment
  pub past : top < length moment.graph.cores

-- at no moment do more than top stand
abbrev pub StaysWithin : Grammar → ℕ → Type 0
StaysWithin G top = (b : Building) → Underway G b → length b.graph.cores ≤ top

-- a cell for each state and token, and for each state and rule
abbrev pub cell_count : Grammar → Graph → ℕ
cell_count G g = length g.cores * (G.tokens + G.rules)

pub record BuildingSizes : Type 0 where
  -- a building that ends with no more than top states never had more
  pub within : (G : Grammar) (b : Building) (top : ℕ) → WellFormed G → Built G b → length b.graph.cores ≤ top → StaysWithin G top
  -- it doesn't both grow past top and stay within it
  pub apart : (G : Grammar) (top : ℕ) → GrowsPast G top → StaysWithin G top → ⊥
