use Rattle.lrkit_c.proofs.Readings.{steps_go_on}
use Rattle.lrkit_c.proofs.reading.take_steps.Goals as goal

pub steps-preserved : goal.steps-preserved
steps-preserved c =
    steps_go_on c.args.prefix.now.parser c.args.steps.now c.steps.index c.index-steps-index.result c.steps.prefix c.take_step.new.prefix (record { front = c.args.prefix.now.tokens; left = c.args.left.now }) c.steps.rest.now c.in_ok-rest.rest.now
    c.steps-test.true c.index-steps-index.is c.steps.invariant c.in_ok-rest.ensures.takes c.in_ok-rest.ensures.parser
