use Rattle.std.proofs.Common.{◌++◌, ap, sym, arith}
use Rattle.std.specs.String.{string_bytes}
use Rattle.lrpar_diagnostics.specs.Underlines.{underlined_line}
use Rattle.lrpar_diagnostics.proofs.LineStarts.{behind_ends, first_end, next_end}
use Rattle.lrpar_diagnostics.proofs.diagnostics.SpannedDiagnosticFormatter.push_further.Goals as goal

pub lines-init : goal.lines-init
lines-init c = first_end (underlined_line c.args.self.now.text c.args.underline.now.prefix.now c.args.underline.now.span c.args.underline.now.mark) c.args.self.now.text c.self.inside.src.now c.args.first c.args.last c.line_end-end.result (string_bytes c.args.text.now) (sym (ap (λ v. v.text) c.self.view_is)) c.line_end-end.ensures.value c.line_end-end.ensures.within

pub lines-preserved : goal.lines-preserved
lines-preserved c =
    let line = underlined_line c.args.self.now.text c.args.underline.now.prefix.now c.args.underline.now.span c.args.underline.now.mark in
    next_end line c.args.self.now.text c.self.inside.src.now c.lines.end c.args.last c.line_end-end-in-lines.result (string_bytes c.lines.text) (string_bytes c.push_str.new.self) (string_bytes c.push_line.new.text) (string_bytes c.args.text.now ++ behind_ends line c.args.self.now.text c.args.first c.args.last) (sym (ap (λ v. v.text) c.self.view_is)) c.lines.invariant (omega arith) c.requires.last c.line_end-end-in-lines.ensures.value c.line_end-end-in-lines.ensures.within c.in_ok-push_str.ensures.bytes c.in_ok-push_line.ensures
