-- The marks so far are marks, and so is the last.
use Rattle.std.specs.List.{All}
use Rattle.cfg_base.specs.Marks.{IsMark}
use Rattle.cfg_base.proofs.text_lines.marks_of.Given as goal

abbrev pub invariant-steps : goal.invariant-steps
invariant-steps l = IsMark l.text l.last × All (IsMark l.text) l.marks.items
