-- The lines of the kinds so far are behind the text.
use Rattle.std.proofs.Common.{◌≡◌, ◌++◌, take, string_bytes}
use Rattle.std.specs.Prelude.{flat_map}
use Rattle.lrkit_import.specs.Counts.{line_of}
use Rattle.lrkit_import.proofs.counts.push_lines.Given as goal

abbrev pub invariant-kinds : goal.invariant-kinds
invariant-kinds l = string_bytes l.out ≡ string_bytes l.fn.out ++ flat_map (line_of l.notes) (take l.kind-index l.kinds)
