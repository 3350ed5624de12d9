-- The bytes so far are those that are gone from the source.
use Rattle.std.proofs.Common.{◌+◌, ◌-◌, vec_len}
use Rattle.byte_streams.specs.Inputs.{most_bytes}
use Rattle.byte_streams.proofs.ReadSoFar.{SoFar}
use Rattle.byte_streams.proofs.reading.read_whole.Given as goal

abbrev pub invariant-reads : goal.invariant-reads
invariant-reads g l = SoFar (g.S.Source.known l.initial.source) (g.S.Source.known l.source) (g.S.Source.faults l.initial.source) (g.S.Source.faults l.source) l.bytes.items (vec_len l.bytes)

abbrev pub decreases-reads : goal.decreases-reads
decreases-reads g l = most_bytes + 1 - vec_len l.bytes
