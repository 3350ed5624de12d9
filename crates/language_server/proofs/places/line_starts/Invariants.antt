use Rattle.std.proofs.Common.{◌≡◌}
use Rattle.language_server.specs.Lines.{starts_upto}
use Rattle.language_server.proofs.places.line_starts.Given as goal

abbrev pub invariant-bytes : goal.invariant-bytes
invariant-bytes l = l.starts.items ≡ starts_upto l.text l.index
