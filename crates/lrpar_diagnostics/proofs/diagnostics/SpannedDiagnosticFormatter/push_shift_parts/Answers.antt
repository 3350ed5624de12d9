use Rattle.std.proofs.Common.{◌++◌, ap, ◌∙◌}
use Rattle.std.specs.String.{string_bytes}
use Rattle.lrpar_diagnostics.specs.ConflictTexts.{shift_parts, rule_span, token_span}
use Rattle.lrpar_diagnostics.proofs.TextLines.{put_more}
use Rattle.lrpar_diagnostics.proofs.diagnostics.SpannedDiagnosticFormatter.push_shift_parts.Goals as goal

pub returns : goal.returns
returns g c =
    let read = c.args.read.now in
    let v = read.grm.now in
    let source = c.args.self.now in
    let ast = read.ast.now in
    let old = string_bytes c.args.text.now in
    let message = c.args.message.now in
    let number = g.S.IndexStorage.number in
    let rule = rule_span v (number c.args.entry.1.0) in
    put_more _ _ _ _ _ (put_more _ _ _ _ _ (put_more _ _ _ _ _ c.in_ok-push_located.ensures c.in_ok-push_told_if.ensures) c.in_ok-push_told.ensures) c.in_ok-push_reduced.ensures
    ∙ (ap (λ r. old ++ shift_parts source message r c.token_span-token.result ast c.to_usize.result) c.rule_span-rule.ensures
    ∙ (ap (λ t. old ++ shift_parts source message rule t ast c.to_usize.result) c.token_span-token.ensures
    ∙ ap (λ n. old ++ shift_parts source message rule (token_span v read.dollar.now (number c.args.entry.0.0)) ast n) c.to_usize.ensures.value))
