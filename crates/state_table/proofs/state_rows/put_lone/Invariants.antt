use Rattle.std.proofs.Common.{◌≡◌, ℕ, ◌≤◌, length}
use Rattle.state_table.specs.CellRows.{StandsAt, lone_cells}
use Rattle.state_table.specs.CellViews.{cells_of, targets_of}
use Rattle.state_table.proofs.Marks.{marked_from}
use Rattle.state_table.proofs.state_rows.put_lone.Given as goal

-- the row of the first so many tokens, and those of the set from there on
abbrev pub invariant-tokens : goal.invariant-tokens
invariant-tokens g l =
    let number = g.S.IndexStorage.number in
    let shifts = targets_of number l.shifts in
    (goal.iterator-tokens g).can_next l.number-iterator ×
    (goal.iterator-tokens g).is_finite l.number-iterator ×
    ((n : ℕ) × record {
      within : n ≤ length l.tokens.bits;
      left : l.number-iterator ≡ marked_from l.tokens.bits n;
      stands : StandsAt (lone_cells (number l.pidx.0) l.tokens.bits shifts) shifts n l.next (cells_of number l.row.items);
    })
