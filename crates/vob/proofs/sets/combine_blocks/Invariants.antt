use Rattle.std.proofs.Common.{◌≡◌, not, length, take, drop}
use Rattle.std.specs.List.{flat_map}
use Rattle.vob.specs.Bits.{bitwise}
use Rattle.vob.specs.Pointwise.{item_of}
use Rattle.vob.proofs.Setwise.{same_bits}
use Rattle.std.specs.Vec.{vec_capacity}
use Rattle.vob.proofs.sets.combine_blocks.Given as goal

abbrev pub invariant-each : goal.invariant-each
invariant-each g l =
    let bits = g.T.Word.bits in
    let init = l.fn.to.items in
    record {
      size : length l.to.items ≡ length init;
      capacity : vec_capacity l.to ≡ vec_capacity l.fn.to;
      rest : drop l.k l.to.items ≡ drop l.k init;
      done : flat_map bits (take l.k l.to.items) ≡ bitwise (item_of l.how) (flat_map bits (take l.k init)) (flat_map bits (take l.k l.from));
      flag : l.changed ≡ not (same_bits (flat_map bits (take l.k l.to.items)) (flat_map bits (take l.k init)));
    }
