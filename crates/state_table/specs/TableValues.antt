-- What contracts see of a table.
use Rattle.std.specs.Prelude.{◌≡◌, ℕ, ◌==◌, ◌+◌, Bool, true, false, List, [], Option, None, slice_index_or, map, filter, is_some, count_by}
use Rattle.std.specs.List.{range_with_len, list_any, sum_by}
use Rattle.lr_theory.specs.Automaton.{Action}
use Rattle.table_theory.specs.Cells.{Conflicts}

-- the counts, and a row of cells and one of gotos for each state
pub record TableValue : Type 0 where
  pub states : ℕ
  pub tokens : ℕ
  pub rules : ℕ
  pub productions : ℕ
  pub start : ℕ
  pub actions : List (List Action)
  pub gotos : List (List (Option ℕ))
  pub conflicts : Option Conflicts

-- outside of the rows each action is `error`, and each goto None
abbrev pub action_at : TableValue → ℕ → ℕ → Action
action_at v s t = slice_index_or (slice_index_or v.actions s []) t Action.error

abbrev pub goto_at : TableValue → ℕ → ℕ → Option ℕ
goto_at v s A = slice_index_or (slice_index_or v.gotos s []) A None

abbrev pub is_filled : Action → Bool
is_filled (Action.shift k) = true
is_filled (Action.reduce p) = true
is_filled Action.accept = true
is_filled Action.error = false

abbrev pub is_shift : Action → Bool
is_shift (Action.shift k) = true
is_shift (Action.reduce p) = false
is_shift Action.accept = false
is_shift Action.error = false

abbrev pub is_reduce_by : ℕ → Action → Bool
is_reduce_by p (Action.shift k) = false
is_reduce_by p (Action.reduce q) = p == q
is_reduce_by p Action.accept = false
is_reduce_by p Action.error = false

-- the tokens on which the state does something, and those that it shifts
abbrev pub filled_tokens : TableValue → ℕ → List ℕ
filled_tokens v s = filter (λ t. is_filled (action_at v s t)) (range_with_len 0 v.tokens)

abbrev pub shifted_tokens : TableValue → ℕ → List ℕ
shifted_tokens v s = filter (λ t. is_shift (action_at v s t)) (range_with_len 0 v.tokens)

-- the productions by which its row reduces
abbrev pub reduced_productions : TableValue → ℕ → List ℕ
reduced_productions v s = filter (λ p. list_any (is_reduce_by p) (slice_index_or v.actions s [])) (range_with_len 0 v.productions)

-- some cell reduces by p, and each filled one does
pub record ReducesOnly (v : TableValue) (s p : ℕ) : Type 0 where
  pub token : ℕ
  pub some : action_at v s token ≡ Action.reduce p
  pub only : (t : ℕ) → is_filled (action_at v s t) ≡ true → action_at v s t ≡ Action.reduce p

-- how many cells and gotos are filled
abbrev pub filled_count : TableValue → ℕ
filled_count v = sum_by (λ row. count_by is_filled row) v.actions + sum_by (λ row. count_by is_some row) v.gotos

-- the numbers of a row's filled cells, or of its shifts alone
abbrev pub keeps : Bool → Action → Bool
keeps true a = is_shift a
keeps false a = is_filled a

abbrev pub kept_tokens : Bool → List (ℕ × Action) → List ℕ
kept_tokens shifts row = map (λ e. e.0) (filter (λ e. keeps shifts e.1) row)

-- whether a row reduces by p, and the k productions from a on by which it does
abbrev pub reduces_in : List (ℕ × Action) → ℕ → Bool
reduces_in row p = list_any (λ e. is_reduce_by p e.1) row

abbrev pub reduced_from : List (ℕ × Action) → ℕ → ℕ → List ℕ
reduced_from row a k = filter (λ p. reduces_in row p) (range_with_len a k)
