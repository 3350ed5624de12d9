-- So many bytes were taken, and the others are taken as from the start.
use Rattle.std.proofs.Common.{◌≡◌, ◌+◌, drop}
use Rattle.bison_rules.specs.Pieces.{comment_size}
use Rattle.bison_rules.proofs.sizes.comment_size.Given as goal

abbrev pub invariant-bytes : goal.invariant-bytes
invariant-bytes l = l.i + comment_size l.last (drop l.i l.bytes) ≡ comment_size 0 l.bytes
