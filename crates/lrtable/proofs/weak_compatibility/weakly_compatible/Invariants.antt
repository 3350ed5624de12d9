use Rattle.std.proofs.Common.{ℕ, ◌<◌}
use Rattle.state_table.specs.Meeting.{PairFits, row, rows_in}
use Rattle.lrtable.specs.MovedItems.{rows_from}
use Rattle.lrtable.proofs.weak_compatibility.weakly_compatible.Given as goal

abbrev pub invariant-each : goal.invariant-each
invariant-each g l = (h : ℕ) → h < l.j → (k : ℕ) → k < h → PairFits (row (rows_in l.a) k) (row (rows_in l.a) h) (row (rows_from l.rows l.b) k) (row (rows_from l.rows l.b) h)
