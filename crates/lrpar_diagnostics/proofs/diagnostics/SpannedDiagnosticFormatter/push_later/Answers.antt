use Rattle.std.proofs.Common.{◌++◌, ◌+◌, ap, ◌∙◌, refl}
use Rattle.std.specs.Prelude.{drop, codes, slice_get}
use Rattle.std.specs.String.{string_bytes}
use Rattle.lrpar_diagnostics.specs.Underlines.{underlined}
use Rattle.lrpar_diagnostics.specs.Occurrences.{occurrence_text, dots_before, later_texts}
use Rattle.lrpar_diagnostics.proofs.LaterTexts.{lent, step}
use Rattle.lrpar_diagnostics.proofs.diagnostics.SpannedDiagnosticFormatter.push_later.Goals as goal

pub spans-preserved : goal.spans-preserved
spans-preserved c =
    let text = c.args.self.now.text in
    let kind = c.args.kind in
    let spans = c.args.spans.now in
    let i = c.spans.i in
    let span = c.index-spans-i.result in
    let old = string_bytes c.spans.text in
    step text kind i (i + 1) spans span old (string_bytes c.push_occurrence.new.text) (string_bytes c.args.text.now ++ later_texts text kind 2 (drop 1 spans)) c.spans-test.true refl
    (c.in_ok-push_occurrence.ensures
    ∙ (ap (λ dots. old ++ (codes "\n" ++ underlined text dots span (occurrence_text kind (i + 1)) 94)) c.dots_before.ensures
    ∙ (ap (λ next. old ++ (codes "\n" ++ underlined text (dots_before text span next) span (occurrence_text kind (i + 1)) 94)) (lent spans (i + 1) c.get.result c.get.ensures.lookup)
    ∙ ap (λ s. old ++ (codes "\n" ++ underlined text (dots_before text s (slice_get spans (i + 1))) s (occurrence_text kind (i + 1)) 94)) c.index-spans-i.is)))
    c.spans.invariant
