use Rattle.std.proofs.Common.{drop}
use Rattle.parse_trees.specs.Edits.{edits_of}
use Rattle.parse_trees.specs.Shown.{shown}
use Rattle.parse_trees.proofs.ShownSteps.{shown_on, shown_stops}
use Rattle.parse_trees.proofs.parse_repair.show_steps.Goals as goal

pub returns-in_default : goal.returns-in_default
returns-in_default g c =
    let number = g.S.IndexStorage.number in
    shown_stops number c.args.lexemes.now c.args.steps.now (shown (edits_of number c.args.steps.now) (drop c.args.index c.args.lexemes.now)) c.steps.repairs.items c.steps.number c.steps.at c.step_at-step.result c.steps.invariant c.step_at-step.ensures (rw c.in_default.is at c.show_step.ensures)

pub steps-preserved : goal.steps-preserved
steps-preserved g c =
    let number = g.S.IndexStorage.number in
    shown_on number c.args.lexemes.now c.args.steps.now (shown (edits_of number c.args.steps.now) (drop c.args.index c.args.lexemes.now)) c.steps.repairs.items c.push.new.self.items c.steps.number c.steps.at c.in-Some.next c.step_at-step.result c.in-Some.repair c.steps.invariant c.step_at-step.ensures c.in-Some.ensures c.in_ok-push.ensures.items
