use Rattle.std.proofs.Common.{refl}
use Rattle.cfg_numbered.specs.Info.{rule_facts}
use Rattle.cfgrammar.specs.FromAst.{implicit_start_name, implicit_name, added_rule_facts}
use Rattle.cfgrammar.proofs.ByName.{free_after}
use Rattle.cfgrammar.proofs.yacc.from_ast.info.add_implicit.Goals as goal

pub add_rule-requires-2 : goal.add_rule-requires-2
add_rule-requires-2 c = free_after rule_facts (λ r. r.name) (λ e. refl) c.args.rules.now.entries c.add_rule.new.rules.entries implicit_name (added_rule_facts implicit_start_name) c.requires.rule c.in_ok-add_rule.ensures refl
