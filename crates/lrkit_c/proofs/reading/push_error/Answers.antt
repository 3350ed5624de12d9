use Rattle.lrkit_c.proofs.Readings.{error_marked}
use Rattle.lrkit_c.proofs.reading.push_error.Goals as goal

pub returns-clause-marks : goal.returns-clause-marks
returns-clause-marks c =
    error_marked c.args.parser.now c.args.error.now c.args.prefix.now c.read_on.new.prefix c.take_steps.new.prefix c.args.left.now c.in_ok-at.at.now c.in_ok-rest.rest.now c.first_steps.result.now _ _ c.requires c.in_ok-at.ensures.reads
    c.in_ok-at.ensures.parser c.in_ok-push_marks.ensures c.first_steps.ensures c.in_ok-rest.ensures.takes
