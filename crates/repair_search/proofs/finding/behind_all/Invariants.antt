-- Look-ups are only made.
use Rattle.std.proofs.Common.{◌≤◌}
use Rattle.repair_search.proofs.finding.behind_all.Given as goal

abbrev pub invariant-steps : goal.invariant-steps
invariant-steps g l = l.stacks.left ≤ l.initial.stacks.left
