use Rattle.std.proofs.Common.{◌≡◌, drop}
use Rattle.std.specs.List.{list_any}
use Rattle.grammar_index.specs.Renames.{is_bare}
use Rattle.grammar_index.proofs.renaming.has_bare.Given as goal

abbrev pub invariant-places : goal.invariant-places
invariant-places l = list_any (is_bare l.text) l.places ≡ list_any (is_bare l.text) (drop l.one-index l.places)
