use Rattle.std.proofs.Common.{◌↔◌, false, take}
use Rattle.std.specs.List.{flat_map}
use Rattle.vob.specs.Bits.{Meets}
use Rattle.vob.proofs.Meeting.{HasOne, turned}
use Rattle.vob.proofs.sets.blocks_lack.Given as goal

abbrev pub invariant-each : goal.invariant-each
invariant-each g l = HasOne (g.T.Word.bits l.lacking) ↔ Meets (flat_map g.T.Word.bits (take l.k l.blocks)) (turned false (flat_map g.T.Word.bits (take l.k l.others)))
