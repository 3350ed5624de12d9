use Rattle.std.proofs.Common.{◌≡◌, ◌++◌, ◌∷◌, map}
use Rattle.cfg_read.specs.AstModels.{named_rule}
use Rattle.cfg_numbered.specs.Info.{rule_facts}
use Rattle.cfgrammar.specs.FromAst.{start_name, added_rule_facts, file_rule_facts}
use Rattle.cfgrammar.proofs.yacc.from_ast.info.rules.Given as goal

abbrev pub invariant-rules : goal.invariant-rules
invariant-rules l = map rule_facts l.rules.entries ++ map file_rule_facts (map named_rule l.name-iterator) ≡ added_rule_facts start_name ∷ map file_rule_facts l.fn.ast.rules
