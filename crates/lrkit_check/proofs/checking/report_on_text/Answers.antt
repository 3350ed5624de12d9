use Rattle.std.proofs.Common.{◌≡◌, IfOk, ap, ◌∙◌, subst}
use Rattle.grammar_report.specs.Outcomes.{IsOutcome}
use Rattle.lrkit_check.proofs.checking.report_on_text.Goals as goal

pub returns : goal.returns
returns c =
    let text : c.with_color-source.result.text ≡ c.args.grammar.now = ap (λ s. s.text) c.with_color-source.ensures ∙ ap (λ s. s.text) c.in_ok-new.ensures in
    subst (λ t. IfOk c.report_in-told.result (λ r. IsOutcome t r.outcome)) text c.report_in-told.ensures.outcome
