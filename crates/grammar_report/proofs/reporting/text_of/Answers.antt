use Rattle.std.proofs.Common.{◌≡◌, IfOk, OnErr, string_bytes, subst}
use Rattle.grammar_report.specs.Outcomes.{IsKitIn, TellsOutcome}
use Rattle.grammar_report.specs.declared.outcome.Outcome.TheVariants.{Invalid}
use Rattle.grammar_report.proofs.ReportMessages.{of_refused, of_text}
use Rattle.grammar_report.proofs.reporting.text_of.Goals as goal

pub returns-in-Ok : goal.returns-in-Ok
returns-in-Ok c =
    let v = c.args.source.now in
    let outcome = c.args.reading.now.outcome in
    let (is, tells) = subst (λ r. IfOk r (λ k. IsKitIn v.text k × TellsOutcome k outcome)) c.in-Ok.is c.requires.kit in
    of_text _ c.args.asked.each c.in-Ok.kit v c.text_of_kit.result outcome string_bytes is tells c.text_of_kit.ensures

pub returns-in-Err : goal.returns-in-Err
returns-in-Err c =
    let v = c.args.source.now in
    let outcome = c.args.reading.now.outcome in
    let is = subst (λ r. OnErr r (outcome ≡ Invalid)) c.in-Err.is c.requires.refusal in
    of_refused _ c.args.asked.each v c.text_of_refusal.result outcome c.in-Err.refusal string_bytes is c.text_of_refusal.ensures
