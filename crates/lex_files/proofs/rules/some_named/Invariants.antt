use Rattle.std.proofs.Common.{◌≡◌, map, drop}
use Rattle.std.specs.List.{list_any}
use Rattle.lex_files.specs.LexFiles.{is_named, rule_value}
use Rattle.lex_files.proofs.rules.some_named.Given as goal

abbrev pub invariant-rules : goal.invariant-rules
invariant-rules l = list_any (is_named l.name) (map rule_value (drop l.rule-index l.rules)) ≡ list_any (is_named l.name) (map rule_value l.rules)
