use Rattle.text_messages.proofs.AddedMessages.{warns_more, warns_then}
use Rattle.grammar_report.proofs.idle.push_idle.Goals as goal

pub returns : goal.returns
returns c = warns_then c.push_unreduced.result _ _ _ (warns_more _ _ _ c.in_ok-push_idle_precedences.ensures c.in_ok-push_idle_precs.ensures) c.push_unreduced.ensures
