use Rattle.std.proofs.Common.{◌≡◌, ◌++◌, map, take}
use Rattle.std.specs.List.{flat_map}
use Rattle.cfg_read.specs.SyntaxModels.{line_of}
use Rattle.grammar_index.specs.Occurrences.{in_line}
use Rattle.grammar_index.proofs.listing.push_lines.Given as goal

abbrev pub invariant-lines : goal.invariant-lines
invariant-lines l = l.found.items ≡ l.fn.found.items ++ flat_map in_line (map line_of (take l.line-index l.lines))
