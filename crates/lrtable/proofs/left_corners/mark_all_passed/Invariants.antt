use Rattle.std.specs.Prelude.{map, take}
use Rattle.lrtable.specs.Fronts.{front_of}
use Rattle.lrtable.specs.Pruning.{Marks}
use Rattle.lrtable.specs.Reaching.{PassedIn}
use Rattle.lrtable.proofs.left_corners.mark_all_passed.Given as goal

abbrev pub invariant-openers : goal.invariant-openers
invariant-openers l = Marks (PassedIn (map front_of (take l.opener-index l.openers))) l.initial.passed.bits l.passed.bits l.initial.waiting.items l.waiting.items
