use Rattle.std.proofs.Common.{◌≡◌, ◌++◌, take}
use Rattle.std.specs.String.{string_bytes}
use Rattle.report_forms.specs.DotTexts.{box_lines}
use Rattle.report_forms.proofs.dot.push_items.Given as goal

abbrev pub invariant-items : goal.invariant-items
invariant-items l = string_bytes l.text ≡ string_bytes l.fn.text ++ box_lines (take l.item-index l.items)
