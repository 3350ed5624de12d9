use Rattle.std.proofs.Common.{◌≡◌, ◌++◌, map, take}
use Rattle.cfg_read.specs.SyntaxModels.{epp_of}
use Rattle.grammar_index.specs.Occurrences.{at_epp}
use Rattle.grammar_index.proofs.listing.push_epp.Given as goal

abbrev pub invariant-epp : goal.invariant-epp
invariant-epp l = l.found.items ≡ l.fn.found.items ++ map at_epp (map epp_of (take l.one-index l.epp))
