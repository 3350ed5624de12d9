-- The least production by which cells reduce.
use Rattle.std.specs.Prelude.{◌≡◌, ℕ, ◌<◌, ◌≤◌, ◌⊎◌, true, false, List}
use Rattle.lr_theory.specs.Automaton.{Action}
use Rattle.state_table.specs.TableValues.{is_reduce_by, reduces_in}

-- r is the production by which the cell reduces, from `from` up to before `below`, or is `below` where there is none
abbrev pub IsLesser : Action → ℕ → ℕ → ℕ → Type 0
IsLesser a from below r = ((r ≡ below) × ((q : ℕ) → from ≤ q → q < below → is_reduce_by q a ≡ false)) ⊎ ((from ≤ r) × (r < below) × (a ≡ Action.reduce r))

-- p is the least one of a row from `from` up to before `end`, or is `end` where there is none
pub record IsLeastReduced (row : List (ℕ × Action)) (from end p : ℕ) : Type 0 where
  pub above : from ≤ p
  pub within : p ≤ end
  pub none : (q : ℕ) → from ≤ q → q < p → reduces_in row q ≡ false
  pub here : p < end → reduces_in row p ≡ true
