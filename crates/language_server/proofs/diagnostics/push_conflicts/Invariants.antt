-- Each conflict so far added one diagnostic.
use Rattle.std.proofs.Common.{◌≤◌, ◌+◌, length}
use Rattle.language_server.proofs.diagnostics.push_conflicts.Given as goal

abbrev pub invariant-conflicts : goal.invariant-conflicts
invariant-conflicts l = length l.found.items ≤ length l.fn.found.items + l.index
