-- So many bytes were taken, and the others are taken as from the start.
use Rattle.std.proofs.Common.{◌≡◌, ◌+◌, drop, false}
use Rattle.bison_rules.specs.Pieces.{quote_size}
use Rattle.bison_rules.proofs.sizes.quote_size.Given as goal

abbrev pub invariant-bytes : goal.invariant-bytes
invariant-bytes l = l.i + quote_size l.quote l.escaped (drop l.i l.bytes) ≡ quote_size l.quote false l.bytes
