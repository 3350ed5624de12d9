use Rattle.std.proofs.Common.{ℕ, ◌<◌}
use Rattle.std.specs.Prelude.{IsTrue}
use Rattle.vob.specs.Sets.{is_set}
use Rattle.state_table.specs.Meeting.{row, rows_in}
use Rattle.lrtable.specs.MovedItems.{rows_from}
use Rattle.lrtable.proofs.weak_compatibility.hold_all.Given as goal

abbrev pub invariant-each : goal.invariant-each
invariant-each g l = (k : ℕ) → k < l.i → (t : ℕ) → IsTrue (is_set (row (rows_from l.rows l.b) k) t) → IsTrue (is_set (row (rows_in l.a) k) t)
