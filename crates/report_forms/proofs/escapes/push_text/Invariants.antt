use Rattle.std.proofs.Common.{◌≡◌, ◌++◌}
use Rattle.std.specs.List.{flat_map}
use Rattle.std.specs.String.{string_bytes}
use Rattle.report_forms.specs.PageTexts.{page_char}
use Rattle.report_forms.proofs.escapes.push_text.Given as goal

abbrev pub invariant-characters : goal.invariant-characters
invariant-characters l = string_bytes l.page ≡ string_bytes l.fn.page ++ flat_map page_char l.yielded
