-- Tables that keep the filled cells alone, in rows whose numbers rise.
use Rattle.std.specs.Prelude.{◌≡◌, ℕ, ◌+◌, ◌*◌, ◌^◌, ◌<◌, List, [], map, length, get_or, Option, Some, None}
use Rattle.std.specs.List.{range_with_len}
use Rattle.lr_theory.specs.Automaton.{Action}
use Rattle.table_theory.specs.Cells.{Conflicts}
use Rattle.state_table.specs.Rows.{Rises, Below, at_of}
use Rattle.state_table.specs.TableValues.{TableValue}

abbrev pub or_error : Option Action → Action
or_error None = Action.error
or_error (Some a) = a

-- the n cells of a row
abbrev pub full_cells : ℕ → List (ℕ × Action) → List Action
full_cells n row = map (λ t. or_error (at_of row t)) (range_with_len 0 n)

abbrev pub full_targets : ℕ → List (ℕ × ℕ) → List (Option ℕ)
full_targets n row = map (λ A. at_of row A) (range_with_len 0 n)

-- the filled ones of n cells
pub record IsCellRow (n : ℕ) (row : List (ℕ × Action)) : Type 0 where
  pub rises : Rises row
  pub below : Below n row
  pub filled : (i : ℕ) (d : ℕ × Action) → i < length row → (get_or row i d).1 ≡ Action.error → ⊥

-- the gotos that there are, of n
pub record IsTargetRow (n : ℕ) (row : List (ℕ × ℕ)) : Type 0 where
  pub rises : Rises row
  pub below : Below n row

-- a table as it is kept
pub record SparseTable : Type 0 where
  pub states : ℕ
  pub tokens : ℕ
  pub rules : ℕ
  pub productions : ℕ
  pub start : ℕ
  pub actions : List (List (ℕ × Action))
  pub gotos : List (List (ℕ × ℕ))
  pub conflicts : Option Conflicts

-- and as it is seen
abbrev pub full : SparseTable → TableValue
full t = record {
  states = t.states;
  tokens = t.tokens;
  rules = t.rules;
  productions = t.productions;
  start = t.start;
  actions = map (full_cells t.tokens) t.actions;
  gotos = map (full_targets t.rules) t.gotos;
  conflicts = t.conflicts;
}

-- what is so of every table
pub record IsSparse (t : SparseTable) : Type 0 where
  pub start : t.start < t.states
  pub actions : length t.actions ≡ t.states
  pub gotos : length t.gotos ≡ t.states
  pub rows : (s : ℕ) → s < t.states → IsCellRow t.tokens (get_or t.actions s [])
  pub targets : (s : ℕ) → s < t.states → IsTargetRow t.rules (get_or t.gotos s [])
  -- as many cells as can be counted
  pub room : t.states * (t.tokens + t.rules) < 2 ^ 64

-- each entry reduces by p
abbrev pub AllReduce : List (ℕ × Action) → ℕ → Type 0
AllReduce row p = (i : ℕ) (d : ℕ × Action) → i < length row → (get_or row i d).1 ≡ Action.reduce p

-- a row has an entry, and each reduces by p
pub record RowReduces (row : List (ℕ × Action)) (p : ℕ) : Type 0 where
  pub some : 0 < length row
  pub only : AllReduce row p
