use Rattle.std.proofs.Common.{◌≡◌, not, length, take, drop, map}
use Rattle.std.specs.List.{flat_map}
use Rattle.std.specs.Vec.{vec_capacity}
use Rattle.vob.proofs.sets.flip_blocks.Given as goal

abbrev pub invariant-each : goal.invariant-each
invariant-each g l =
    let bits = g.T.Word.bits in
    let init = l.fn.blocks.items in
    record {
      size : length l.blocks.items ≡ length init;
      capacity : vec_capacity l.blocks ≡ vec_capacity l.fn.blocks;
      rest : drop l.k l.blocks.items ≡ drop l.k init;
      done : flat_map bits (take l.k l.blocks.items) ≡ map not (flat_map bits (take l.k init));
    }
