use Rattle.std.proofs.Common.{◌≡◌, IfSome, Some, subst}
use Rattle.text_messages.specs.declared.source.Severity.TheVariants.{Note}
use Rattle.grammar_report.proofs.ReportMessages.{with_note, without_note}
use Rattle.grammar_report.proofs.conflicts.push_shown.Goals as goal

pub returns-in_ok-push-in-Some : goal.returns-in_ok-push-in-Some
returns-in_ok-push-in-Some c =
    let note = subst (λ o. IfSome o (λ m. m.severity ≡ Note)) c.in-Some.is c.in_ok-note.ensures in
    with_note c.push-in-Some.result c.args.messages.now c.push.new.self c.push-in-Some.new.self c.args.message (record c.in-Some.note { example = Some c.in_ok-lines.lines }) c.in_ok-push-in-Some.ensures.added note c.push-in-Some.ensures.added

pub returns-in-None : goal.returns-in-None
returns-in-None c = without_note c.push-in-None.result c.args.messages.now c.push-in-None.new.self (record c.args.message { example = Some c.in_ok-lines.lines }) c.push-in-None.ensures.added
