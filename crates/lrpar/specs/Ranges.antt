-- What a run and the check of chains ask of a table.
use Rattle.std.specs.Prelude.{◌≡◌, ◌<◌, ◌≤◌, ◌⊎◌, ℕ, Some, None}
use Rattle.lr_theory.specs.Automaton.{shift, reduce, error}
use Rattle.state_table.specs.TableValues.{TableValue, action_at, goto_at}

-- what cells and gotos name is in range, and outside of the counts there is nothing
pub record IsTable (v : TableValue) : Type 0 where
  pub start : v.start < v.states
  pub shifts : (s t q : ℕ) → action_at v s t ≡ shift q → q < v.states
  pub reduces : (s t p : ℕ) → action_at v s t ≡ reduce p → p < v.productions
  pub targets : (s A q : ℕ) → goto_at v s A ≡ Some q → q < v.states
  pub no_action : (s t : ℕ) → (v.states ≤ s) ⊎ (v.tokens ≤ t) → action_at v s t ≡ error
  pub no_goto : (s A : ℕ) → (v.states ≤ s) ⊎ (v.rules ≤ A) → goto_at v s A ≡ None
