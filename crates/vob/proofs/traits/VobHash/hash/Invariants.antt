use Rattle.std.proofs.Common.{◌≡◌, true, ◌++◌, length}
use Rattle.std.specs.List.{flat_map}
use Rattle.std.specs.List.{fold}
use Rattle.std.specs.Hash as fed
use Rattle.std.specs.declared.ops.Bound.TheVariants.{Unbounded}
use Rattle.vob.specs.Walk.{walk}
use Rattle.vob.proofs.traits.VobHash.hash.Given as goal

abbrev pub invariant-each : goal.invariant-each
invariant-each g l =
    fold g.H.Hasher.write l.state (flat_map fed.usize l.indices)
    ≡ fold g.H.Hasher.write l.fn.state (fed.usize (length l.self.bits) ++ flat_map fed.usize (walk true l.self.bits Unbounded Unbounded))

abbrev pub decreases-each : goal.decreases-each
decreases-each g l = length l.indices
