use Rattle.std.proofs.Common.{is_some, option_map, ap, ◌∙◌}
use Rattle.cfg_read.specs.Asts.{Ast}
use Rattle.cfg_read.specs.AstChanges.{rule_named}
use Rattle.cfg_read.specs.AstModels.{rule_entry_of}
use Rattle.cfg_read.specs.AstBuild.{has_rule}
use Rattle.cfg_read.proofs.ChangeLemmas.{rule_found}
use Rattle.cfg_read.proofs.RuleLemmas.{found_rule, copied_is_some}
use Rattle.cfg_read.proofs.yacc.ast.GrammarAST.get_rule.Goals as goal

pub returns-clause-rule : goal.returns-clause-rule
returns-clause-rule c =
    let q = c.args.name.now in
    ap (option_map rule_entry_of) c.get.ensures.value
    ∙ rule_found c.self.inside.rules.entries q c.self.invariant
    ∙ ap (λ (a : Ast). rule_named a.rules q) c.self.view_is

pub returns-clause-there : goal.returns-clause-there
returns-clause-there c =
    let q = c.args.name.now in
    copied_is_some c.get.result
    ∙ ap is_some c.get.ensures.value
    ∙ found_rule c.self.inside.rules.entries q
    ∙ ap (λ (a : Ast). has_rule a.rules q) c.self.view_is
