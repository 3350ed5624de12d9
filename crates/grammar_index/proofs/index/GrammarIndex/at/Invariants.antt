use Rattle.std.proofs.Common.{◌≡◌, drop}
use Rattle.std.specs.List.{list_any}
use Rattle.grammar_index.specs.Occurrences.{touches}
use Rattle.grammar_index.proofs.index.GrammarIndex.at.Given as goal

abbrev pub invariant-names : goal.invariant-names
invariant-names l = list_any (touches l.offset) l.self.names.items ≡ list_any (touches l.offset) (drop l.one-index l.self.names.items)
