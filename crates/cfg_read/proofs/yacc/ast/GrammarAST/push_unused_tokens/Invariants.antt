use Rattle.std.proofs.Common.{◌≡◌, ◌++◌, map}
use Rattle.cfg_read.specs.AstModels.{named_span}
use Rattle.cfg_read.specs.NameModels.{has_name}
use Rattle.cfg_read.specs.Warnings.{UnusedToken, warnings_at, unused_tokens}
use Rattle.cfg_read.specs.WarningModels.{warnings_in}
use Rattle.cfg_read.proofs.WarningLemmas.{with_tokens}
use Rattle.cfg_read.proofs.yacc.ast.GrammarAST.push_unused_tokens.Given as goal

abbrev pub invariant-tokens : goal.invariant-tokens
invariant-tokens l =
    warnings_in l.warnings.items ++ warnings_at UnusedToken (unused_tokens (has_name l.used) (with_tokens l.self (map named_span l.name-iterator)))
    ≡ warnings_in l.fn.warnings.items ++ warnings_at UnusedToken (unused_tokens (has_name l.used) l.self)
