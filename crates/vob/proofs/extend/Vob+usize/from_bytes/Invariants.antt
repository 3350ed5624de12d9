use Rattle.std.proofs.Common.{◌≡◌, ◌*◌, ◌≤◌, length, take}
use Rattle.std.specs.List.{flat_map}
use Rattle.std.proofs.Common.{reverse}
use Rattle.vob.specs.Digits.{digits}
use Rattle.vob.proofs.extend.Vob+usize.from_bytes.Given as goal

abbrev pub invariant-each : goal.invariant-each
invariant-each l =
    record {
      done : l.made.bits ≡ flat_map (λ byte. reverse (digits 8 byte)) (take l.byte-index l.slice);
      room : 8 * length l.slice ≤ l.made.capacity;
    }
