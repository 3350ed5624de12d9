use Rattle.std.proofs.Common.{◌≡◌, ◌++◌, map, take}
use Rattle.cfg_read.specs.SyntaxModels.{symbols_of}
use Rattle.grammar_index.specs.Occurrences.{at_item}
use Rattle.grammar_index.proofs.listing.push_items.Given as goal

abbrev pub invariant-items : goal.invariant-items
invariant-items l = l.found.items ≡ l.fn.found.items ++ map (at_item l.role) (symbols_of (take l.item-index l.items))
