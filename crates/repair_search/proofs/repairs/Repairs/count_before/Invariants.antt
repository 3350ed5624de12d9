-- What is halved lies within the list.
use Rattle.std.proofs.Common.{◌≤◌, ◌-◌, length}
use Rattle.repair_search.proofs.repairs.Repairs.count_before.Given as goal

abbrev pub invariant-halves : goal.invariant-halves
invariant-halves g l = l.high ≤ length l.self.found.items

abbrev pub decreases-halves : goal.decreases-halves
decreases-halves g l = l.high - l.low
