use Rattle.std.proofs.Common.{List, ℕ, string_bytes, subst}
use Rattle.grammar_report.specs.Messages.{ExplainRefusal, ShowsSome}
use Rattle.grammar_report.proofs.ReportMessages.{collected}
use Rattle.grammar_report.proofs.reporting.text_of_refusal.Goals as goal

pub returns : goal.returns
returns c =
    let v = c.args.source.now in
    let refusal = c.args.refusal.now in
    let new = string_bytes c.push_messages.new.text in
    let shows = collected (λ text. ExplainRefusal text refusal) v c.text.result.now c.new-messages.result c.push_refusal.new.messages c.as_slice.result.now (string_bytes c.new-text.result) new c.new-messages.ensures c.text.ensures c.in_ok-push_refusal.ensures c.as_slice.ensures.value c.as_slice.ensures.within c.in_ok-push_messages.ensures in
    subst (λ (old : List ℕ). ShowsSome (ExplainRefusal v.text refusal) v old new) c.new-text.ensures.bytes shows
