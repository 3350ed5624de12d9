use Rattle.std.proofs.Common.{◌+◌, length}
use Rattle.vob.specs.Sets.{missing}
use Rattle.lrtable.proofs.Passing.{ArePassing}
use Rattle.lrtable.proofs.left_corners.mark_reached.Given as goal

abbrev pub invariant-waiting : goal.invariant-waiting
invariant-waiting l = ArePassing l.openers l.rule l.passed.bits l.waiting.items

abbrev pub decreases-waiting : goal.decreases-waiting
decreases-waiting l = missing l.passed.bits + length l.waiting.items
