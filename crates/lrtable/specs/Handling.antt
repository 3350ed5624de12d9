-- One step of the building over the states: the symbols in order, and how far they are handled.
use Rattle.std.specs.Prelude.{ℕ, suc, ◌+◌, ◌-◌, ◌*◌, List, take, map}
use Rattle.cfg_theory.specs.Grammar.{Sym, rule, token, Grammar}
use Rattle.lr_theory.specs.Graph.{core_of}
use Rattle.lr_theory.specs.Building.{Building, Handled, Reached, Built, symbols, taken}
use Rattle.lr_theory.specs.Sizes.{GrowsPast}
use Rattle.lr_theory.specs.BuildingMeasure.{look_limit, progress, todo_count}
use Rattle.state_table.specs.ItemRows.{map_of}
use Rattle.lrtable.specs.States.{StateValue, Matches, AreStates}

-- a symbol's index among all: rules before tokens
abbrev pub rank : Grammar → Sym → ℕ
rank G (rule A) = A
rank G (token t) = G.rules + t

-- the states stand for a building that was reached
pub record AreReached (G : Grammar) (states : List StateValue) : Type 0 where
  pub building : Building
  pub reached : Reached G building
  pub matches : Matches states building
  pub cores : AreStates G.tokens states

-- the states stand for a building within a step from another: the first so many symbols are handled for the state s
pub record AreHandled (G : Grammar) (before : Building) (s count : ℕ) (states : List StateValue) : Type 0 where
  pub building : Building
  pub handled : Handled G s (core_of before.graph s) (take count (symbols G)) (taken before s) building
  pub matches : Matches states building
  pub cores : AreStates G.tokens states

-- states for which the building is at its end
pub record AreBuilt (G : Grammar) (states : List StateValue) : Type 0 where
  pub building : Building
  pub built : Built G building
  pub matches : Matches states building
  pub cores : AreStates G.tokens states

-- more states stand at some moment than a limit
abbrev pub TooManyStand : Grammar → ℕ → Type 0
TooManyStand G limit = GrowsPast G limit

-- what is left, up to a limit of states: the measure of the loop over steps
abbrev pub left_in : Grammar → ℕ → List StateValue → ℕ
left_in G limit states = (limit * suc (look_limit G) - progress G (map (λ s. map_of s.core) states)) * suc limit + todo_count (map (λ s. s.todo) states)
