use Rattle.std.proofs.Common.{◌≡◌, ◌++◌}
use Rattle.std.specs.List.{flat_map}
use Rattle.std.specs.String.{string_bytes}
use Rattle.report_forms.specs.DotTexts.{label_char}
use Rattle.report_forms.proofs.dot.push_label.Given as goal

abbrev pub invariant-characters : goal.invariant-characters
invariant-characters l = string_bytes l.text ≡ string_bytes l.fn.text ++ flat_map label_char l.yielded
