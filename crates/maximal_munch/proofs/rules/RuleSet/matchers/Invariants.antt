use Rattle.std.proofs.Common.{◌≡◌, map, take}
use Rattle.regex.specs.Strings.{regex_pattern, matcher_pattern}
use Rattle.maximal_munch.proofs.rules.RuleSet.matchers.Given as goal

abbrev pub invariant-rules : goal.invariant-rules
invariant-rules l = map matcher_pattern l.matchers.items ≡ map (λ r. regex_pattern r.regex) (take l.index l.self.rules.items)
