-- So many bytes were taken, and the others are taken as from the start.
use Rattle.std.proofs.Common.{◌≡◌, ◌+◌, drop}
use Rattle.bison_rules.specs.Pieces.{word_size}
use Rattle.bison_rules.proofs.sizes.word_size.Given as goal

abbrev pub invariant-bytes : goal.invariant-bytes
invariant-bytes l = l.i + word_size (drop l.i l.bytes) ≡ word_size l.bytes
