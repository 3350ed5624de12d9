use Rattle.std.proofs.Common.{◌≡◌, map, fold, take}
use Rattle.cfg_read.specs.SyntaxTexts.{RuleText}
use Rattle.cfg_read.specs.SyntaxModels.{rule_of}
use Rattle.cfg_read.specs.NameTables.{known_of, with_rule_name}
use Rattle.cfg_read.proofs.yacc.names.note_rules.Given as goal

abbrev pub invariant-rules : goal.invariant-rules
invariant-rules l = known_of l.table ≡ fold with_rule_name (known_of l.fn.table) (map (λ (r : RuleText). r.name) (map rule_of (take l.rule-index l.rules)))
