use Rattle.std.proofs.Common.{◌≡◌, ◌++◌, map, take}
use Rattle.std.specs.List.{flat_map}
use Rattle.std.specs.String.{string_bytes}
use Rattle.state_table.specs.GraphTexts.{line}
use Rattle.state_table.proofs.graph_texts.push_rest.Given as goal

abbrev pub invariant-lines : goal.invariant-lines
invariant-lines l = string_bytes l.text ≡ string_bytes l.initial.text ++ flat_map (line l.gap) (map string_bytes (take l.i l.lines))
