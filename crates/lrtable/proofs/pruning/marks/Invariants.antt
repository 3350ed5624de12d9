use Rattle.std.proofs.Common.{◌+◌, length, map}
use Rattle.vob.specs.Sets.{missing}
use Rattle.lrtable.specs.Pruning.{AreMarking}
use Rattle.lrtable.specs.StateViews.{value_of}
use Rattle.lrtable.proofs.pruning.marks.Given as goal

abbrev pub invariant-waiting : goal.invariant-waiting
invariant-waiting g l = AreMarking (map (value_of g.S.IndexStorage.number) l.states) l.marked.bits l.waiting.items

abbrev pub decreases-waiting : goal.decreases-waiting
decreases-waiting g l = missing l.marked.bits + length l.waiting.items
