use Rattle.std.proofs.Common.{◌≡◌, min, take}
use Rattle.std.specs.List.{sum_by}
use Rattle.grammar_report.specs.Messages.{place_count}
use Rattle.grammar_report.proofs.faults.places_len.Given as goal

abbrev pub invariant-errors : goal.invariant-errors
invariant-errors l = l.count ≡ min (sum_by place_count (take l.index l.errors)) 18446744073709551615
