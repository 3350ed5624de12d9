use Rattle.std.proofs.Common.{◌≡◌, filter, take}
use Rattle.grammar_index.specs.Occurrences.{names_it}
use Rattle.grammar_index.proofs.asking.collect.Given as goal

abbrev pub invariant-names : goal.invariant-names
invariant-names l = l.found.items ≡ filter (names_it l.asked.text.now l.asked.name.now l.asked.is_declared l.asked.is_token) (take l.one-index l.names)
