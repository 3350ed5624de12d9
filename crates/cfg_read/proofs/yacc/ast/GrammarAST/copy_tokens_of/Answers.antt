use Rattle.std.proofs.Common.{ap, ◌∙◌}
use Rattle.cfg_read.specs.contracts.yacc.ast.GrammarAST.{the_view}
use Rattle.cfg_read.specs.Asts.{Ast}
use Rattle.cfg_read.specs.AstBuild.{with_tokens_of}
use Rattle.cfg_read.proofs.ChangeLemmas.{tokens_put}
use Rattle.cfg_read.proofs.yacc.ast.GrammarAST.copy_tokens_of.Goals as goal

pub returns : goal.returns
returns c =
    tokens_put (the_view c.self.inside) c.in_ok-self-inside.ensures c.in_ok-self-inside-2.ensures c.in_ok-self-inside-3.ensures c.in_ok-self-inside-4.ensures
    ∙ ap (with_tokens_of (the_view c.from.inside)) c.self.view_is
    ∙ ap (λ (from : Ast). with_tokens_of from c.args.self.now) c.from.view_is
