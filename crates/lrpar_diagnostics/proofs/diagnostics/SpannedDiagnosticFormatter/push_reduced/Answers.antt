use Rattle.std.proofs.Common.{◌++◌, ap, ◌∙◌, append_assoc, codes}
use Rattle.std.specs.String.{string_bytes}
use Rattle.lrpar_diagnostics.specs.ProductionMarks.{marked_lines, production_spans}
use Rattle.lrpar_diagnostics.proofs.diagnostics.SpannedDiagnosticFormatter.push_reduced.Goals as goal

pub returns : goal.returns
returns c =
    let text = c.args.self.now.text in
    let old = string_bytes c.args.text.now in
    let tail = codes " Reduced productions\n\n" in
    c.in_ok-push_str.ensures.bytes
    ∙ (ap (λ l. l ++ tail) (c.in_ok-push_marked_lines.ensures ∙ ap (λ s. old ++ marked_lines text s) (c.as_slice.ensures.value ∙ c.in_ok-spans.ensures))
    ∙ append_assoc old (marked_lines text (production_spans c.args.ast.now c.args.number)) tail)
