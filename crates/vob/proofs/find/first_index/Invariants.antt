use Rattle.std.proofs.Common.{◌≡◌, ℕ, ◌-◌, ◌<◌, ◌≤◌, false, not, get_or}
use Rattle.std.specs.List.{flat_map}
use Rattle.vob.proofs.find.first_index.Given as goal

abbrev pub invariant-each : goal.invariant-each
invariant-each g l =
    record {
      low : l.from ≤ l.at;
      before : (i : ℕ) → l.from ≤ i → i < l.at → get_or (flat_map g.T.Word.bits l.blocks) i false ≡ not l.value;
    }

abbrev pub decreases-each : goal.decreases-each
decreases-each g l = l.to - l.at
