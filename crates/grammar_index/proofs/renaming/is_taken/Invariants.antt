use Rattle.std.proofs.Common.{◌≡◌, drop}
use Rattle.std.specs.List.{list_any}
use Rattle.grammar_index.specs.Occurrences.{spells}
use Rattle.grammar_index.proofs.renaming.is_taken.Given as goal

abbrev pub invariant-names : goal.invariant-names
invariant-names l = list_any (spells l.text l.name) l.names ≡ list_any (spells l.text l.name) (drop l.one-index l.names)
