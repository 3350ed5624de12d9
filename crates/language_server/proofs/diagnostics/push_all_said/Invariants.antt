-- Each message so far added one diagnostic, or none.
use Rattle.std.proofs.Common.{◌≤◌, ◌+◌, length}
use Rattle.language_server.proofs.diagnostics.push_all_said.Given as goal

abbrev pub invariant-messages : goal.invariant-messages
invariant-messages l = length l.found.items ≤ length l.fn.found.items + l.index
