use Rattle.std.proofs.Common.{◌++◌, ap, ◌∙◌}
use Rattle.std.specs.String.{string_bytes}
use Rattle.lrpar_diagnostics.specs.ConflictTexts.{pair_parts, pair_message, rule_span}
use Rattle.lrpar_diagnostics.proofs.diagnostics.SpannedDiagnosticFormatter.push_pair.Goals as goal

pub returns : goal.returns
returns g c =
    let v = c.args.grm.now in
    let source = c.args.self.now in
    let old = string_bytes c.args.text.now in
    let number = g.S.IndexStorage.number in
    let message = pair_message v (number c.args.entry.0.0) (number c.args.entry.1.0) (number c.args.entry.2.0) in
    c.in_ok-push_pair_parts.ensures
    ∙ (ap (λ m. old ++ pair_parts source m c.rule_span-rule.result c.rule_span-other.result c.token_span-token.result) (c.as_str.ensures.value ∙ c.in_ok-message.ensures)
    ∙ (ap (λ r. old ++ pair_parts source message r c.rule_span-other.result c.token_span-token.result) c.rule_span-rule.ensures
    ∙ (ap (λ r. old ++ pair_parts source message (rule_span v (number c.args.entry.1.0)) r c.token_span-token.result) c.rule_span-other.ensures
    ∙ ap (λ t. old ++ pair_parts source message (rule_span v (number c.args.entry.1.0)) (rule_span v (number c.args.entry.2.0)) t) c.token_span-token.ensures)))
