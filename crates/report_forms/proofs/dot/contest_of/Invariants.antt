use Rattle.std.proofs.Common.{◌≡◌, take}
use Rattle.std.specs.String.{string_bytes}
use Rattle.report_forms.specs.DotTexts.{contest}
use Rattle.report_forms.proofs.dot.contest_of.Given as goal

abbrev pub invariant-tokens : goal.invariant-tokens
invariant-tokens l = string_bytes l.line ≡ contest (take l.token-index l.contested)
