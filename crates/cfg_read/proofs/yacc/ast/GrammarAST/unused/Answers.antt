use Rattle.std.proofs.Common.{◌++◌, ap, ◌∙◌}
use Rattle.cfg_read.specs.NameModels.{has_name}
use Rattle.cfg_read.specs.Warnings.{UnusedRule, UnusedToken, warnings_at, unused_rules, unused_tokens}
use Rattle.cfg_read.specs.WarningModels.{warnings_in}
use Rattle.cfg_read.proofs.yacc.ast.GrammarAST.unused.Goals as goal

pub returns-in-Ok-push_unused : goal.returns-in-Ok-push_unused
returns-in-Ok-push_unused c =
    let ast = c.args.self.now in
    let rules = warnings_at UnusedRule (unused_rules (has_name c.in_ok-reached.reached) ast) in
    let tokens = warnings_at UnusedToken (unused_tokens (has_name c.in-Ok.used) ast) in
    record {
      reached = has_name c.in_ok-reached.reached;
      reached_is = c.in_ok-reached.ensures;
      used = has_name c.in-Ok.used;
      used_is = c.in-Ok.ensures;
      all = c.in-Ok-push_unused.ensures
          ∙ ap (λ l. (warnings_in l ++ rules) ++ tokens) c.new-warnings.ensures.items;
    }
