use Rattle.std.proofs.Common.{ℕ, ◌<◌, false}
use Rattle.std.specs.Prelude.{IsTrue, slice_index_or}
use Rattle.state_table.specs.Meeting.{row, rows_in}
use Rattle.lrtable.proofs.weak_compatibility.is_in_each.Given as goal

abbrev pub invariant-each : goal.invariant-each
invariant-each l = (h : ℕ) → h < l.i → IsTrue (slice_index_or (row (rows_in l.looks) h) l.fn.token false)
