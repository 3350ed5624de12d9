use Rattle.std.proofs.Common.{ap}
use Rattle.text_messages.specs.Added.{Said}
use Rattle.text_messages.proofs.AddedMessages.{warns_at, warns_more, warns_none, warns_one}
use Rattle.grammar_report.proofs.idle.push_idle_precs.Goals as goal
use Rattle.grammar_report.proofs.idle.push_idle_precs.Goals.{then-idle+in_ok-push_idle_prec, else-idle}

pub productions-init : goal.productions-init
productions-init c = warns_none c.args.messages.now

pub productions-preserved : goal.productions-preserved
productions-preserved c =
    elim c.if-idle.branch [
      | then-idle+in_ok-push_idle_prec w ↦ warns_at _ _ _ w.messages-is (warns_more _ _ _ c.productions.invariant (warns_one _ _ _ (λ m e. ap (λ (x : Said). x.severity) e) w.in_ok-push_idle_prec.ensures))
      | else-idle w ↦ warns_at _ _ _ w.messages-is c.productions.invariant
    ]
