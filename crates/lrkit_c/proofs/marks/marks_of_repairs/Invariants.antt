-- The marks so far are those of the repairs so far.
use Rattle.std.proofs.Common.{◌≡◌, take}
use Rattle.std.specs.List.{flat_map}
use Rattle.lrkit_c.specs.Marks.{repair_marks}
use Rattle.lrkit_c.proofs.marks.marks_of_repairs.Given as goal

abbrev pub invariant-repairs : goal.invariant-repairs
invariant-repairs l = l.marks.items ≡ flat_map (λ r. repair_marks r.items) (take l.index l.repairs)
