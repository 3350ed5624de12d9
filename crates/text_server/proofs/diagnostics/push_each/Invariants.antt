-- As many were added as errors were read.
use Rattle.std.proofs.Common.{◌≡◌, ◌+◌, length}
use Rattle.text_server.proofs.diagnostics.push_each.Given as goal

abbrev pub invariant-errors : goal.invariant-errors
invariant-errors l = length l.found.items ≡ length l.initial.found.items + l.index
