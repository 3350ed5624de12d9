use Rattle.std.proofs.Common.{◌≡◌, ◌++◌, map, take}
use Rattle.std.specs.List.{flat_map}
use Rattle.cfg_read.specs.SyntaxModels.{level_of}
use Rattle.grammar_index.specs.Occurrences.{in_level}
use Rattle.grammar_index.proofs.listing.push_levels.Given as goal

abbrev pub invariant-levels : goal.invariant-levels
invariant-levels l = l.found.items ≡ l.fn.found.items ++ flat_map in_level (map level_of (take l.level-index l.levels))
