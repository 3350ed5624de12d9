use Rattle.std.proofs.Common.{ℕ, ◌<◌}
use Rattle.state_table.specs.Meeting.{PairFits, row, rows_in}
use Rattle.lrtable.specs.MovedItems.{rows_from}
use Rattle.lrtable.proofs.weak_compatibility.fits_below.Given as goal

abbrev pub invariant-each : goal.invariant-each
invariant-each g l = (k : ℕ) → k < l.i → PairFits (row (rows_in l.a) k) (row (rows_in l.a) l.j) (row (rows_from l.rows l.b) k) (row (rows_from l.rows l.b) l.j)
