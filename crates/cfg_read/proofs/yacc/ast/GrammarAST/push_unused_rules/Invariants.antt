use Rattle.std.proofs.Common.{◌≡◌, ◌++◌, map}
use Rattle.cfg_read.specs.AstModels.{named_rule}
use Rattle.cfg_read.specs.NameModels.{has_name}
use Rattle.cfg_read.specs.Warnings.{UnusedRule, warnings_at, unused_rules}
use Rattle.cfg_read.specs.WarningModels.{warnings_in}
use Rattle.cfg_read.proofs.WarningLemmas.{with_rules}
use Rattle.cfg_read.proofs.yacc.ast.GrammarAST.push_unused_rules.Given as goal

abbrev pub invariant-rules : goal.invariant-rules
invariant-rules l =
    warnings_in l.warnings.items ++ warnings_at UnusedRule (unused_rules (has_name l.reached) (with_rules l.self (map named_rule l.name-iterator)))
    ≡ warnings_in l.fn.warnings.items ++ warnings_at UnusedRule (unused_rules (has_name l.reached) l.self)
