use Rattle.std.proofs.Common.{◌≡◌, ◌+◌, ◌++◌, drop}
use Rattle.std.specs.String.{string_bytes}
use Rattle.lrpar_diagnostics.specs.Occurrences.{later_texts}
use Rattle.lrpar_diagnostics.proofs.diagnostics.SpannedDiagnosticFormatter.push_later.Given as goal

abbrev pub invariant-spans : goal.invariant-spans
invariant-spans l = string_bytes l.text ++ later_texts l.self.text l.kind (l.i + 1) (drop l.i l.spans) ≡ string_bytes l.initial.text ++ later_texts l.self.text l.kind 2 (drop 1 l.spans)
