-- Each candidate takes a look-up.
use Rattle.std.proofs.Common.{◌≤◌}
use Rattle.repair_search.proofs.search.search.Given as goal

abbrev pub invariant-candidates : goal.invariant-candidates
invariant-candidates g l = l.stacks.left ≤ l.initial.stacks.left

abbrev pub decreases-candidates : goal.decreases-candidates
decreases-candidates g l = l.stacks.left
