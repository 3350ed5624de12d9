-- So many bytes were taken, and the others are taken as from the start.
use Rattle.std.proofs.Common.{◌≡◌, ◌≤◌, ◌+◌, drop}
use Rattle.bison_rules.specs.Pieces.{code_size}
use Rattle.bison_rules.proofs.sizes.code_size.Given as goal

abbrev pub invariant-bytes : goal.invariant-bytes
invariant-bytes l = (l.i + code_size l.is_prologue l.depth l.skipped (drop l.i l.bytes) ≡ code_size l.is_prologue 0 0 l.bytes) × (l.depth ≤ l.i)
