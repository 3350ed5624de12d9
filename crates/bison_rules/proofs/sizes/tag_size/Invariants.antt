-- So many bytes were taken, and the others are taken as from the start.
use Rattle.std.proofs.Common.{◌≡◌, ◌≤◌, ◌+◌, drop}
use Rattle.bison_rules.specs.Pieces.{tag_size}
use Rattle.bison_rules.proofs.sizes.tag_size.Given as goal

abbrev pub invariant-bytes : goal.invariant-bytes
invariant-bytes l = (l.i + tag_size l.depth l.last (drop l.i l.bytes) ≡ tag_size 0 0 l.bytes) × (l.depth ≤ l.i)
