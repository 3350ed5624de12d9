-- The rows of the states so far, and their listed conflicts.
use Rattle.std.specs.Prelude.{◌≡◌, ℕ, ◌<◌, List, map}
use Rattle.std.specs.List.{range_with_len}
use Rattle.cfg_theory.specs.Grammar.{Grammar}
use Rattle.lr_theory.specs.Automaton.{Action}
use Rattle.table_theory.specs.Cells.{Precedences, ReduceReduce, ShiftReduce, gathered, some_conflicts}
use Rattle.state_table.specs.CellRows.{PartsValue, cells_by, filled_row, pairs_in, shifts_in}
use Rattle.state_table.specs.CellViews.{pairs_of, shifts_of}
use Rattle.state_table.specs.Rows.{at_of}
use Rattle.state_table.specs.TableValues.{TableValue, action_at, goto_at}
use Rattle.state_table.specs.TableViews.{action_rows_of, target_rows_of}
use Rattle.state_table.specs.declared.table_rows.TableRows.{TableRows}

pub record RowsValue : Type 0 where
  pub actions : List (List (ℕ × Action))
  pub gotos : List (List (ℕ × ℕ))
  pub pairs : List ReduceReduce
  pub shifts : List ShiftReduce

abbrev pub rows_of : {S : Type 0} → (S → ℕ) → TableRows S → RowsValue
rows_of number r = record { actions = action_rows_of number r.actions.items; gotos = target_rows_of number r.gotos.items; pairs = pairs_of number r.pairs.items; shifts = shifts_of number r.shifts.items }

-- they are those of the first n states, by the parts and the row of gotos of each
pub record AreRowsOf (G : Grammar) (precedences : Precedences) (parts : ℕ → PartsValue) (targets : ℕ → List (ℕ × ℕ)) (n : ℕ) (r : RowsValue) : Type 0 where
  pub actions : r.actions ≡ map (λ s. filled_row (cells_by G precedences (parts s)) G.tokens) (range_with_len 0 n)
  pub gotos : r.gotos ≡ map targets (range_with_len 0 n)
  pub pairs : r.pairs ≡ gathered (λ s. pairs_in s (parts s) G.tokens) n
  pub shifts : r.shifts ≡ gathered (λ s. shifts_in precedences s (parts s) G.tokens) n

-- the table of n states by the parts and the row of gotos of each
pub record IsTableBy (G : Grammar) (precedences : Precedences) (parts : ℕ → PartsValue) (targets : ℕ → List (ℕ × ℕ)) (n : ℕ) (v : TableValue) : Type 0 where
  pub action : (s t : ℕ) → s < n → t < G.tokens → action_at v s t ≡ cells_by G precedences (parts s) t
  pub goto : (s A : ℕ) → s < n → A < G.rules → goto_at v s A ≡ at_of (targets s) A
  pub conflicts : v.conflicts ≡ some_conflicts (gathered (λ s. pairs_in s (parts s) G.tokens) n) (gathered (λ s. shifts_in precedences s (parts s) G.tokens) n)
