use Rattle.std.proofs.Common.{◌≡◌, drop}
use Rattle.std.specs.List.{list_any}
use Rattle.grammar_index.specs.Occurrences.{declares}
use Rattle.grammar_index.proofs.asking.is_declared.Given as goal

abbrev pub invariant-names : goal.invariant-names
invariant-names l = list_any (declares l.text l.name) l.names ≡ list_any (declares l.text l.name) (drop l.one-index l.names)
