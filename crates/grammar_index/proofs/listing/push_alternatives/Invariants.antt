use Rattle.std.proofs.Common.{◌≡◌, ◌++◌, map, take}
use Rattle.std.specs.List.{flat_map}
use Rattle.cfg_read.specs.SyntaxModels.{alternative_of}
use Rattle.grammar_index.specs.Occurrences.{in_alternative}
use Rattle.grammar_index.proofs.listing.push_alternatives.Given as goal

abbrev pub invariant-alternatives : goal.invariant-alternatives
invariant-alternatives l = l.found.items ≡ l.fn.found.items ++ flat_map in_alternative (map alternative_of (take l.one-index l.list))
