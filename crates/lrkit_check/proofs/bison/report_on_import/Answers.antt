use Rattle.std.proofs.Common.{◌≡◌, IfOk, string_bytes, ap, ◌∙◌, subst}
use Rattle.grammar_report.specs.Outcomes.{IsOutcome}
use Rattle.lrkit_check.proofs.bison.report_on_import.Goals as goal

pub returns : goal.returns
returns c =
    let text : c.with_color-source.result.text ≡ string_bytes c.args.import.now.imported.text = ap (λ s. s.text) c.with_color-source.ensures ∙ ap (λ s. s.text) c.in_ok-source.ensures in
    subst (λ t. IfOk c.report_in-told.result (λ r. IsOutcome t r.outcome)) text c.report_in-told.ensures.outcome
