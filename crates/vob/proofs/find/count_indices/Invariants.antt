use Rattle.std.proofs.Common.{◌≡◌, ◌+◌, ◌-◌, ◌≤◌, length}
use Rattle.std.specs.List.{flat_map}
use Rattle.vob.specs.Walk.{indices_of}
use Rattle.vob.proofs.find.count_indices.Given as goal

abbrev pub invariant-each : goal.invariant-each
invariant-each g l =
    record {
      count : l.count ≡ length (indices_of l.value (flat_map g.T.Word.bits l.blocks) l.from l.at);
      low : l.from ≤ l.at;
      high : l.at ≤ l.to + (l.from - l.to);
    }

abbrev pub decreases-each : goal.decreases-each
decreases-each g l = l.to - l.at
