use Rattle.std.proofs.Common.{sym, ◌∙◌}
use Rattle.word_lines.proofs.SaidEdits.{takes_step}
use Rattle.word_lines.proofs.repairs.take_part.Goals as goal

pub returns-in_ok-push-in-Step : goal.returns-in_ok-push-in-Step
returns-in_ok-push-in-Step g c = takes_step g.S.IndexStorage.number c.args.grm.now c.args.part.now c.args.inserting.now c.args.steps.now.items _ c.in-Step.step (sym c.is_empty.ensures ∙ c.if-is_empty.false) c.in-Step.ensures c.in_ok-push-in-Step.ensures.items
