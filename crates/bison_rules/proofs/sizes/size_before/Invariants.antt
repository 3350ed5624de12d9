-- So many bytes were taken, and the others are taken as from the start.
use Rattle.std.proofs.Common.{◌≡◌, ◌+◌, drop}
use Rattle.bison_rules.specs.Pieces.{size_before}
use Rattle.bison_rules.proofs.sizes.size_before.Given as goal

abbrev pub invariant-bytes : goal.invariant-bytes
invariant-bytes l = l.i + size_before l.end (drop l.i l.bytes) ≡ size_before l.end l.bytes
