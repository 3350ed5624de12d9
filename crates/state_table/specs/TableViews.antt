-- Rows of a table as contracts see them.
use Rattle.std.specs.Prelude.{ℕ, List, map, Option}
use Rattle.std.specs.declared.alloc.Global.{Global}
use Rattle.std.specs.declared.vec.Vec.{Vec}
use Rattle.table_theory.specs.Cells.{Conflicts}
use Rattle.lr_theory.specs.Automaton.{Action}
use Rattle.state_table.specs.declared.stidx.StIdx.{StIdx}
use Rattle.state_table.specs.declared.cells.Action.{Action as TableAction}
use Rattle.state_table.specs.CellViews.{cells_of, targets_of}
use Rattle.state_table.specs.SparseRows.{SparseTable}

abbrev pub action_rows_of : {S : Type 0} → (S → ℕ) → List (Vec (ℕ × TableAction S) Global) → List (List (ℕ × Action))
action_rows_of number rows = map (λ row. cells_of number row.items) rows

abbrev pub target_rows_of : {S : Type 0} → (S → ℕ) → List (Vec (ℕ × StIdx S) Global) → List (List (ℕ × ℕ))
target_rows_of number rows = map (λ row. targets_of number row.items) rows

abbrev pub sparse_of : {S : Type 0} → (S → ℕ) → S → S → S → S → StIdx S → List (Vec (ℕ × TableAction S) Global) → List (Vec (ℕ × StIdx S) Global) → Option Conflicts → SparseTable
sparse_of number states tokens rules prods start actions gotos conflicts = record {
  states = number states;
  tokens = number tokens;
  rules = number rules;
  productions = number prods;
  start = number start.0;
  actions = action_rows_of number actions;
  gotos = target_rows_of number gotos;
  conflicts = conflicts;
}
