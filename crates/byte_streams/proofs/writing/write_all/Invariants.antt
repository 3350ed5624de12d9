-- What is gone from `rest` was appended.
use Rattle.std.proofs.Common.{◌≡◌, ℕ, List, ◌++◌, length}
use Rattle.std.specs.Io.KnownBytes.{Appends}
use Rattle.byte_streams.proofs.writing.write_all.Given as goal

abbrev pub invariant-writes : goal.invariant-writes
invariant-writes g l = (done : List ℕ) × (l.bytes ≡ done ++ l.rest) × Appends (g.W.Sink.known l.initial.out) (g.W.Sink.known l.out) done × (g.W.Sink.faults l.out ≡ g.W.Sink.faults l.initial.out)

abbrev pub decreases-writes : goal.decreases-writes
decreases-writes g l = length l.rest
