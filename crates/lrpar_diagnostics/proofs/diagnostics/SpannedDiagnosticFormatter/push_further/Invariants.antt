use Rattle.std.proofs.Common.{◌-◌, ◌++◌}
use Rattle.std.specs.String.{string_bytes}
use Rattle.lrpar_diagnostics.specs.Underlines.{underlined_line}
use Rattle.lrpar_diagnostics.proofs.LineStarts.{behind_ends, AtEnd}
use Rattle.lrpar_diagnostics.proofs.diagnostics.SpannedDiagnosticFormatter.push_further.Given as goal

abbrev pub invariant-lines : goal.invariant-lines
invariant-lines l =
    let line = underlined_line l.self.text l.underline.prefix.now l.underline.span l.underline.mark in
    AtEnd line l.self.text l.last (string_bytes l.initial.text ++ behind_ends line l.self.text l.first l.last) l.end (string_bytes l.text)

abbrev pub decreases-lines : goal.decreases-lines
decreases-lines l = l.last - l.end
