use Rattle.std.proofs.Common.{◌≡◌, ◌-◌, ◌^◌, take, min}
use Rattle.std.specs.List.{flat_map}
use Rattle.vob.specs.Bits.{count_true}
use Rattle.state_table.proofs.capacities.bits_in.Given as goal

abbrev pub invariant-each : goal.invariant-each
invariant-each g l = l.count ≡ min (count_true (flat_map g.T.Word.bits (take l.k l.blocks))) (2 ^ 64 - 1)
