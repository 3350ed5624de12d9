use Rattle.std.proofs.Common.{◌≡◌, ℕ, ◌≤◌}
use Rattle.lr_theory.specs.Automaton.{Action}
use Rattle.state_table.specs.CellRows.{HasOnlyShifts, StandsAt}
use Rattle.state_table.specs.CellViews.{cells_of, targets_of}
use Rattle.state_table.proofs.LoneRows.{HasSome}
use Rattle.state_table.proofs.state_rows.put_shifts.Given as goal

-- the row has some more of the shifts
abbrev pub invariant-edges : goal.invariant-edges
invariant-edges g l =
    let number = g.S.IndexStorage.number in
    let shifts = targets_of number l.shifts in
    record {
      at : l.next ≡ l.i;
      row : (cells : ℕ → Action) (n : ℕ) → n ≤ l.end → HasOnlyShifts cells shifts n l.end → StandsAt cells shifts n l.initial.next (cells_of number l.initial.row.items) → HasSome cells shifts n l.end l.i (cells_of number l.row.items);
    }
