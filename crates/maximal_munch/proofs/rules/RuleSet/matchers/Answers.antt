use Rattle.std.proofs.Common.{map, ap, ◌∙◌, arith}
use Rattle.std.proofs.lemmas.List.{take_all}
use Rattle.regex.specs.Strings.{regex_pattern, matcher_pattern}
use Rattle.regex.proofs.SetLemmas.{one_more_pattern}
use Rattle.maximal_munch.proofs.AskedRules.{patterns_of_rules}
use Rattle.maximal_munch.specs.declared.rules.Rule.{Rule}
use Rattle.maximal_munch.proofs.rules.RuleSet.matchers.Goals as goal

pub rules-preserved : goal.rules-preserved
rules-preserved c =
    ap (map matcher_pattern) c.in_ok-push.ensures.items
    ∙ one_more_pattern matcher_pattern (λ (r : Rule). regex_pattern r.regex) c.rules.matchers.items c.in_ok-matcher.field-0 c.args.self.now.rules.items c.rules.index c.index.result.now
    (omega arith) c.index.ensures c.rules.invariant c.in_ok-matcher.ensures.pattern

pub returns : goal.returns
returns c =
    let rs = c.args.self.now.rules in
    c.rules.invariant ∙ ap (map (λ (r : Rule). regex_pattern r.regex)) (take_all c.rules.index rs.items (omega (arith, rs.ok.0))) ∙ patterns_of_rules rs.items
