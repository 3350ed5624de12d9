use Rattle.std.proofs.Common.{◌≡◌, ◌≤◌, ◌++◌, drop, length}
use Rattle.std.specs.String.{string_bytes}
use Rattle.lrpar_diagnostics.specs.ProductionMarks.{marks_behind}
use Rattle.lrpar_diagnostics.proofs.diagnostics.SpannedDiagnosticFormatter.push_marks.Given as goal

abbrev pub invariant-spans : goal.invariant-spans
invariant-spans l =
    (l.start ≤ length l.self.text) × (l.from ≤ length l.self.text)
    × (string_bytes l.text ++ marks_behind l.self.text l.start l.from (drop l.i l.spans) ≡ string_bytes l.initial.text ++ marks_behind l.self.text l.first l.first l.spans)
