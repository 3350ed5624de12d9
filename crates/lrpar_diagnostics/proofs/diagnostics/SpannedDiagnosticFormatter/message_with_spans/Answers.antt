use Rattle.std.proofs.Common.{◌++◌, ap, sym, ◌∙◌}
use Rattle.std.specs.Prelude.{option_copied}
use Rattle.std.specs.String.{string_bytes}
use Rattle.lrpar_diagnostics.specs.Underlines.{underlined}
use Rattle.lrpar_diagnostics.specs.Occurrences.{dots_before}
use Rattle.lrpar_diagnostics.proofs.LaterTexts.{lent, whole}
use Rattle.lrpar_diagnostics.proofs.diagnostics.SpannedDiagnosticFormatter.message_with_spans.Goals as goal

pub returns : goal.returns
returns c =
    let text = c.args.self.now.text in
    let spans = c.args.spans.now in
    let span = c.in-Some.first.now in
    let begun = string_bytes c.new-text.result in
    whole text c.args.message.now c.args.kind spans span begun (string_bytes c.push_underlined.new.text) (string_bytes c.push_later.new.text)
    (ap option_copied (sym c.in-Some.is) ∙ c.first.ensures.value)
    c.new-text.ensures.bytes
    (c.in_ok-push_underlined.ensures ∙ ap (λ dots. begun ++ underlined text dots span c.args.message.now 94) (c.dots_before.ensures ∙ ap (dots_before text span) (lent spans 1 c.get.result c.get.ensures.lookup)))
    c.in_ok-push_later.ensures
