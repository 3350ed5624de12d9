use Rattle.std.proofs.Common.{◌≡◌, ◌≤◌, length}
use Rattle.examples.proofs.Joins.{Joined}
use Rattle.examples.proofs.bits.join_each.Given as goal

-- what was joined so far, with its answers
abbrev pub invariant-loop-other : goal.invariant-loop-other
invariant-loop-other l =
    (length l.set.bits ≡ length l.fn.set.bits) × (l.count ≤ l.other-index) × Joined l.fn.set.bits l.set.bits l.count
