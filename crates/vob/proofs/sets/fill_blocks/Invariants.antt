use Rattle.std.proofs.Common.{◌≡◌, length, replicate, take}
use Rattle.std.specs.Vec.{vec_capacity}
use Rattle.vob.proofs.sets.fill_blocks.Given as goal

abbrev pub invariant-each : goal.invariant-each
invariant-each g l =
    record {
      size : length l.blocks.items ≡ length l.fn.blocks.items;
      capacity : vec_capacity l.blocks ≡ vec_capacity l.fn.blocks;
      done : take l.k l.blocks.items ≡ replicate l.k l.with;
    }
