use Rattle.std.proofs.Common.{sym, ◌∙◌, arith}
use Rattle.std.proofs.lemmas.Bool.{cond-true}
use Rattle.std.proofs.lemmas.Str.{IsCharBoundary-start}
use Rattle.regex.specs.Strings.{matcher_pattern}
use Rattle.regex.proofs.SetLemmas.{patterns_stay}
use Rattle.maximal_munch.specs.RuleValues.{rule_set_of}
use Rattle.maximal_munch.proofs.AskedRules.{asks}
use Rattle.maximal_munch.proofs.matching.rule_len.Goals as goal

pub returns-then-is_active-clause-value : goal.returns-then-is_active-clause-value
returns-then-is_active-clause-value c =
    c.match_len.ensures.value
    ∙ asks c.args.rest.now c.args.matchers.now.items (rule_set_of c.args.rules.now).rules c.args.index c.index_mut.result.now (omega arith) c.index_mut.ensures.value c.requires.patterns
    ∙ sym (cond-true _ _ 0 (sym c.is_active.ensures ∙ c.if-is_active.true))

pub returns-then-is_active-clause-same : goal.returns-then-is_active-clause-same
returns-then-is_active-clause-same c =
    patterns_stay matcher_pattern c.args.matchers.now.items c.args.index c.index_mut.result.now (omega arith) c.index_mut.ensures.value c.match_len.new.matcher c.match_len.ensures.same

pub returns-else-index-len-clause-cut : goal.returns-else-index-len-clause-cut
returns-else-index-len-clause-cut c = IsCharBoundary-start _ c.utf8.rest
