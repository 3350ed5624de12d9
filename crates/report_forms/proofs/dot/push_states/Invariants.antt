use Rattle.std.proofs.Common.{◌≡◌, ◌++◌, take}
use Rattle.std.specs.List.{flat_map}
use Rattle.std.specs.String.{string_bytes}
use Rattle.report_forms.specs.DotTexts.{state_lines}
use Rattle.report_forms.proofs.dot.push_states.Given as goal

abbrev pub invariant-states : goal.invariant-states
invariant-states l = string_bytes l.text ≡ string_bytes l.fn.text ++ flat_map state_lines (take l.state-index l.states)
