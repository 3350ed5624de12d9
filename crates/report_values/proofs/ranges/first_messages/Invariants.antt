use Rattle.std.proofs.Common.{◌≡◌, length, min}
use Rattle.report_values.proofs.ranges.first_messages.Given as goal

abbrev pub invariant-messages : goal.invariant-messages
invariant-messages l = length l.list.items ≡ min l.most (length l.yielded)
