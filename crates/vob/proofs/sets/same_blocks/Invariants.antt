use Rattle.std.proofs.Common.{◌≡◌, take}
use Rattle.std.specs.List.{flat_map}
use Rattle.vob.proofs.sets.same_blocks.Given as goal

abbrev pub invariant-each : goal.invariant-each
invariant-each g l = flat_map g.T.Word.bits (take l.k l.a) ≡ flat_map g.T.Word.bits (take l.k l.b)
