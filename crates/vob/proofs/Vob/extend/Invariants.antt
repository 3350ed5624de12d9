use Rattle.std.proofs.Common.{◌≡◌, ◌≤◌, ◌++◌}
use Rattle.vob.proofs.Vob.extend.Given as goal

abbrev pub invariant-loop-item : goal.invariant-loop-item
invariant-loop-item g l =
    record {
      bits : l.self.bits ≡ l.fn.self.bits ++ l.yielded;
      capacity : l.fn.self.capacity ≤ l.self.capacity;
    }
