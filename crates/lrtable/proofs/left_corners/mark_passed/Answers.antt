use Rattle.lrtable.specs.Fronts.{front_of}
use Rattle.lrtable.proofs.Passing.{passed_one, passed_not}
use Rattle.lrtable.proofs.left_corners.mark_passed.Goals as goal

pub returns-in_ok-mark : goal.returns-in_ok-mark
returns-in_ok-mark c = passed_one (front_of c.args.opener.now) c.args.passed.now.bits c.mark.new.marked.bits c.args.waiting.now.items c.mark.new.waiting.items c.if-opener.true c.in_ok-mark.ensures

pub returns-else-opener : goal.returns-else-opener
returns-else-opener c = passed_not (front_of c.args.opener.now) c.args.passed.now.bits c.args.waiting.now.items c.if-opener.false
