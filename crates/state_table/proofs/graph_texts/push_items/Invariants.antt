use Rattle.std.proofs.Common.{◌≡◌, ◌++◌, map, take}
use Rattle.std.specs.String.{string_bytes}
use Rattle.state_table.specs.GraphTexts.{item_text}
use Rattle.state_table.proofs.graph_texts.push_items.Given as goal

abbrev pub invariant-items : goal.invariant-items
invariant-items g l = map string_bytes l.lines.items ≡ map string_bytes l.initial.lines.items ++ map (item_text l.grm) (take l.i l.set)
