use Rattle.std.proofs.Common.{◌≡◌, filter, take}
use Rattle.grammar_index.specs.Occurrences.{AreWithin, is_within}
use Rattle.grammar_index.proofs.index.within.Given as goal

abbrev pub invariant-found : goal.invariant-found
invariant-found l = record {
  items : l.names.items ≡ filter (is_within l.len) (take l.one-index l.found);
  within : AreWithin l.len l.names.items;
}
