use Rattle.std.proofs.Common.{◌≡◌, filter, take}
use Rattle.grammar_index.specs.Occurrences.{is_definition}
use Rattle.grammar_index.proofs.asking.definitions_among.Given as goal

abbrev pub invariant-places : goal.invariant-places
invariant-places l = l.found.items ≡ filter is_definition (take l.one-index l.places)
