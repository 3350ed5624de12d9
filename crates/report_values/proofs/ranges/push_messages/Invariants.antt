-- Each message so far is in a list or left out, and none is left out of a list that has room.
use Rattle.std.proofs.Common.{◌≡◌, ◌≤◌, ◌+◌, length, min}
use Rattle.report_values.specs.Listed.{LeavesFew, left_len, listed_len}
use Rattle.report_values.proofs.ranges.push_messages.Given as goal

abbrev pub invariant-messages : goal.invariant-messages
invariant-messages l =
    (l.object.status ≡ l.fn.object.status) × (l.object.counts ≡ l.fn.object.counts) × (min (listed_len l.fn.object + length l.yielded) 18446744073709551615 ≤ listed_len l.object + left_len l.left) × (listed_len l.object + left_len l.left ≤ listed_len l.fn.object + length l.yielded) × LeavesFew l.fn.most l.object l.left
