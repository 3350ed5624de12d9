use Rattle.std.proofs.Common.{◌≡◌, ◌++◌, map, take}
use Rattle.cfg_read.specs.SyntaxModels.{symbols_of}
use Rattle.grammar_index.specs.Occurrences.{at_symbol}
use Rattle.grammar_index.proofs.listing.push_symbols.Given as goal

abbrev pub invariant-symbols : goal.invariant-symbols
invariant-symbols l = l.found.items ≡ l.fn.found.items ++ map at_symbol (symbols_of (take l.symbol-index l.symbols))
