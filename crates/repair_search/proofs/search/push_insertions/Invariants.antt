-- Look-ups are only made.
use Rattle.std.proofs.Common.{◌≤◌}
use Rattle.repair_search.proofs.search.push_insertions.Given as goal

abbrev pub invariant-tokens : goal.invariant-tokens
invariant-tokens g l = l.stacks.left ≤ l.initial.stacks.left
