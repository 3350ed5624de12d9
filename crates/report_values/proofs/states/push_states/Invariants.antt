use Rattle.std.proofs.Common.{◌≡◌, ◌+◌, length}
use Rattle.report_values.proofs.states.push_states.Given as goal

abbrev pub invariant-states : goal.invariant-states
invariant-states l = length l.states.items ≡ length l.fn.states.items + l.state
