use Rattle.std.proofs.Common.{◌-◌, length}
use Rattle.maximal_munch.specs.Beginnings.{rows_of, KeepsTried}
use Rattle.maximal_munch.proofs.tried.TriedRules.fill.Given as goal

abbrev pub invariant-rows : goal.invariant-rows
invariant-rows l = KeepsTried (rows_of l.fn.self) (rows_of l.self)

abbrev pub decreases-rows : goal.decreases-rows
decreases-rows l = 256 - length l.self.rows.items
