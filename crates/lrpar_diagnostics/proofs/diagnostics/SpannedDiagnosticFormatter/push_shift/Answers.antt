use Rattle.std.proofs.Common.{◌++◌, ap, ◌∙◌}
use Rattle.std.specs.String.{string_bytes}
use Rattle.lrpar_diagnostics.specs.ConflictTexts.{shift_parts, rule_span, token_span}
use Rattle.lrpar_diagnostics.proofs.diagnostics.SpannedDiagnosticFormatter.push_shift.Goals as goal

pub returns : goal.returns
returns g c =
    let read = c.args.read.now in
    let v = read.grm.now in
    let number = g.S.IndexStorage.number in
    let t = number c.args.entry.0.0 in
    let p = number c.args.entry.1.0 in
    c.in_ok-push_shift_parts.ensures
    ∙ ap (λ m. string_bytes c.args.text.now ++ shift_parts c.args.self.now m (rule_span v p) (token_span v read.dollar.now t) read.ast.now p) (c.as_str.ensures.value ∙ c.in_ok-message.ensures)
