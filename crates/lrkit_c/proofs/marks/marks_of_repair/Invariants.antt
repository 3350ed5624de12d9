-- The marks so far are the beginning and those of the steps so far.
use Rattle.std.proofs.Common.{◌≡◌, take}
use Rattle.lrkit_c.specs.Marks.{repair_marks}
use Rattle.lrkit_c.proofs.marks.marks_of_repair.Given as goal

abbrev pub invariant-steps : goal.invariant-steps
invariant-steps l = l.marks.items ≡ repair_marks (take l.index l.steps)
