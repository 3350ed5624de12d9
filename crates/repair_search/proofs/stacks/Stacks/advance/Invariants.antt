-- Each turn makes a look-up.
use Rattle.std.proofs.Common.{◌≤◌}
use Rattle.repair_search.proofs.stacks.Stacks.advance.Given as goal

abbrev pub invariant-turns : goal.invariant-turns
invariant-turns g l = l.self.left ≤ l.initial.self.left

abbrev pub decreases-turns : goal.decreases-turns
decreases-turns g l = l.self.left
