use Rattle.std.proofs.Common.{◌≡◌, ◌≤◌, ◌++◌, take}
use Rattle.vob.proofs.Vob.fill_from_slice.Given as goal

abbrev pub invariant-each : goal.invariant-each
invariant-each g l =
    record {
      bits : l.self.bits ≡ l.fn.self.bits ++ take l.item-index l.other;
      room : l.fn.self.capacity ≤ l.self.capacity;
    }
