use Rattle.std.proofs.Common.{◌≡◌, ◌++◌, ap, sym, ◌∙◌}
use Rattle.std.specs.String.{string_bytes}
use Rattle.cfg_base.specs.Text.{line_end}
use Rattle.cfg_base.specs.Newlines.{line_start, newlines_of}
use Rattle.lrpar_diagnostics.specs.Underlines.{underlined_line, underlined_lines}
use Rattle.lrpar_diagnostics.proofs.LineStarts.{lines_put}
use Rattle.lrpar_diagnostics.proofs.diagnostics.SpannedDiagnosticFormatter.push_underlined.Goals as goal

pub returns : goal.returns
returns c =
    let text = c.args.self.now.text in
    let span = c.within-span.result in
    let same : text ≡ c.self.inside.src.now = sym (ap (λ v. v.text) c.self.view_is) in
    let line = underlined_line text c.args.underline.now.prefix.now span c.args.underline.now.mark in
    lines_put line text (line_start text span.start) (line_end text span.end) c.span_line_bytes-first.result.0 c.line_end-last.result c.args.message.now (string_bytes c.args.text.now) (string_bytes c.push_line.new.text) (string_bytes c.push_further.new.text) (string_bytes c.push_str.new.self) (string_bytes c.push_str-2.new.self)
    (c.span_line_bytes-first.ensures.start text (c.self.invariant ∙ ap newlines_of (sym same)))
    (c.line_end-last.ensures.value ∙ (ap (line_end c.self.inside.src.now) c.end.ensures.value ∙ ap (λ t. line_end t span.end) (sym same)))
    c.in_ok-push_line.ensures c.in_ok-push_further.ensures c.in_ok-push_str.ensures.bytes c.in_ok-push_str-2.ensures.bytes
    ∙ ap (λ s. string_bytes c.args.text.now ++ underlined_lines text c.args.underline.now.prefix.now s c.args.message.now c.args.underline.now.mark) c.within-span.ensures.value
