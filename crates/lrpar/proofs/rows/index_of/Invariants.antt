use Rattle.std.proofs.Common.{◌≤◌, ◌-◌, length}
use Rattle.lrpar.proofs.rows.index_of.Given as goal

abbrev pub invariant-halves : goal.invariant-halves
invariant-halves g l = record { high : l.high ≤ length l.row }

abbrev pub decreases-halves : goal.decreases-halves
decreases-halves g l = l.high - l.low
