use Rattle.std.proofs.Common.{map, fold, ap, ◌∙◌, arith}
use Rattle.std.proofs.lemmas.List.{take_all}
use Rattle.cfg_read.specs.SyntaxTexts.{RuleText}
use Rattle.cfg_read.specs.SyntaxModels.{rule_of}
use Rattle.cfg_read.specs.NameTables.{known_of, with_rule_name}
use Rattle.cfg_read.proofs.KnownLemmas.{fold_turn}
use Rattle.cfg_read.proofs.yacc.names.note_rules.Goals as goal

pub rules-preserved : goal.rules-preserved
rules-preserved c =
    let x = c.rule-item.result in
    fold_turn with_rule_name rule_of (λ (r : RuleText). r.name) (known_of c.args.table.now) (known_of c.rules.table) (known_of c.note_rule.new.self) c.args.rules.now c.rules.rule-index x (omega arith) c.rule-item.is c.rules.invariant
    (c.in_ok-note_rule.ensures x.span)

pub returns : goal.returns
returns c = c.rules.invariant ∙ ap (λ l. fold with_rule_name (known_of c.args.table.now) (map (λ (r : RuleText). r.name) (map rule_of l))) (take_all c.rules.rule-index c.args.rules.now (omega arith))
