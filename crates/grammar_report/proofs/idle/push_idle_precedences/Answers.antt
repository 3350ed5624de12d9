use Rattle.std.proofs.Common.{ap}
use Rattle.text_messages.specs.Added.{Said}
use Rattle.text_messages.proofs.AddedMessages.{warns_at, warns_more, warns_none, warns_one}
use Rattle.grammar_report.proofs.idle.push_idle_precedences.Goals as goal
use Rattle.grammar_report.proofs.idle.push_idle_precedences.Goals.{then-not-is_set+in_ok-push_named, else-not-is_set}

pub precedences-init : goal.precedences-init
precedences-init c = warns_none c.args.messages.now

pub precedences-preserved : goal.precedences-preserved
precedences-preserved c =
    elim c.if-not-is_set.branch [
      | then-not-is_set+in_ok-push_named w ↦ warns_at _ _ _ w.messages-is (warns_more _ _ _ c.precedences.invariant (warns_one _ _ _ (λ m p. ap (λ (x : Said). x.severity) p.2) w.in_ok-push_named.ensures))
      | else-not-is_set w ↦ warns_at _ _ _ w.messages-is c.precedences.invariant
    ]
