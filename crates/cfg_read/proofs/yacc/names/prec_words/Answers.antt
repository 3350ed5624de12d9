use Rattle.std.proofs.Common.{◌++◌, map, ap, option_to_list, ◌∙◌, arith}
use Rattle.std.specs.List.{flat_map}
use Rattle.cfg_read.specs.SyntaxTexts.{AlternativeText}
use Rattle.cfg_read.specs.Validity.{precs_in}
use Rattle.cfg_read.specs.SyntaxModels.{alternative_of, rule_of}
use Rattle.cfg_read.specs.NameModels.{words_at}
use Rattle.cfg_read.proofs.KnownLemmas.{flat_turn}
use Rattle.cfg_read.proofs.yacc.names.prec_words.Goals as goal

pub rules-preserved : goal.rules-preserved
rules-preserved c =
    let old = words_at c.rules.found.items in
    flat_turn precs_in rule_of old (words_at c.push_precs.new.found.items) c.args.rules.now c.rules.rule-index c.rule-item.result (omega arith) c.rule-item.is c.rules.invariant
    (c.in_ok-push_precs.ensures ∙ ap (λ l. old ++ flat_map (λ (a : AlternativeText). option_to_list a.precedence) (map alternative_of l)) c.deref.ensures.value)
