use Rattle.std.proofs.Common.{take}
use Rattle.std.specs.List.{flat_map}
use Rattle.vob.specs.Bits.{Meets}
use Rattle.vob.proofs.Meeting.{turned}
use Rattle.vob.proofs.sets.blocks_meet.Given as goal

abbrev pub invariant-each : goal.invariant-each
invariant-each g l = Meets (flat_map g.T.Word.bits (take l.k l.blocks)) (turned l.value (flat_map g.T.Word.bits (take l.k l.others))) → ⊥
