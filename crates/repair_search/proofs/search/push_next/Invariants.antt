-- Look-ups are only made.
use Rattle.std.proofs.Common.{◌≤◌}
use Rattle.repair_search.proofs.search.push_next.Given as goal

abbrev pub invariant-shifts : goal.invariant-shifts
invariant-shifts g l = l.stacks.left ≤ l.initial.stacks.left
