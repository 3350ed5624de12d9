use Rattle.std.proofs.Common.{◌≡◌, ◌++◌, map, take}
use Rattle.std.specs.List.{flat_map}
use Rattle.cfg_read.specs.SyntaxModels.{rule_of}
use Rattle.grammar_index.specs.Occurrences.{in_rule}
use Rattle.grammar_index.proofs.listing.push_rules.Given as goal

abbrev pub invariant-rules : goal.invariant-rules
invariant-rules l = l.found.items ≡ l.fn.found.items ++ flat_map in_rule (map rule_of (take l.rule-index l.rules))
