use Rattle.std.proofs.Common.{◌≡◌, ℕ, ◌≤◌, length, ◌++◌}
use Rattle.state_table.specs.CellRows.{cells_by, filled_row, pairs_in, shifts_in}
use Rattle.state_table.specs.CellViews.{cells_of, pairs_of, parts_of, precedences_of, shifts_of, targets_of}
use Rattle.state_table.specs.Cursors.{IsCursor}
use Rattle.state_table.specs.Meeting.{rows_in}
use Rattle.state_table.proofs.Marks.{marked_from}
use Rattle.state_table.proofs.state_rows.put_tokens.Given as goal

-- the row of the first so many tokens, and the marked ones from there on
abbrev pub invariant-tokens : goal.invariant-tokens
invariant-tokens g l =
    let number = g.S.IndexStorage.number in
    let parts = parts_of number (rows_in l.source.sets.now) l.source.parts.now in
    let precedences = precedences_of l.source.grm.now in
    (goal.iterator-tokens g).can_next l.number-iterator ×
    (goal.iterator-tokens g).is_finite l.number-iterator ×
    ((n : ℕ) × record {
      within : n ≤ length l.fn.marks.bits;
      left : l.number-iterator ≡ marked_from l.fn.marks.bits n;
      row : cells_of number l.row.items ≡ filled_row (cells_by l.source.grm.now.grammar precedences parts) n;
      pairs : pairs_of number l.pairs.items ≡ pairs_of number l.initial.pairs.items ++ pairs_in (number l.source.stidx.0) parts n;
      shifts : shifts_of number l.shifts.items ≡ shifts_of number l.initial.shifts.items ++ shifts_in precedences (number l.source.stidx.0) parts n;
      cursor : IsCursor (targets_of number l.source.parts.now.shifts.items) l.next n;
    })
