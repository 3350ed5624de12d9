use Rattle.std.proofs.Common.{◌≡◌, ◌+◌, ◌*◌, ◌%◌, ◌≤◌, false, ◌++◌, replicate, take, drop}
use Rattle.std.specs.List.{flat_map}
use Rattle.std.specs.Vec.{vec_capacity}
use Rattle.vob.proofs.shift.append.Given as goal

abbrev pub invariant-each : goal.invariant-each
invariant-each g l =
    let bits = g.T.Word.bits in
    let w = g.T.Word.BITS in
    record {
      done : flat_map bits l.blocks.items ≡ flat_map bits l.fn.blocks.items ++ take (l.k * w) (drop l.from (flat_map bits l.others) ++ replicate (l.from % w) false);
      size : l.blocks.len ≡ l.fn.blocks.len + l.k;
      room : vec_capacity l.fn.blocks ≤ vec_capacity l.blocks;
    }
