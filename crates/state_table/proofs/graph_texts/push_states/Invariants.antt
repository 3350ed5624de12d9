use Rattle.std.proofs.Common.{◌≡◌, ◌++◌}
use Rattle.std.specs.List.{flat_map, range_with_len}
use Rattle.std.specs.String.{string_bytes}
use Rattle.state_table.specs.GraphTexts.{state_text, sets_of}
use Rattle.state_table.proofs.graph_texts.push_states.Given as goal

abbrev pub invariant-states : goal.invariant-states
invariant-states g l = string_bytes l.text ≡ string_bytes l.initial.text ++ flat_map (state_text l.shown.grm.now l.shown.graph.now (sets_of l.shown.core_states l.shown.graph.now)) (range_with_len 0 l.number)
