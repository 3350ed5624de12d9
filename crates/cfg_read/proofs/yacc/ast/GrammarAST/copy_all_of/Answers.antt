use Rattle.std.proofs.Common.{Bool, ap, ◌∙◌}
use Rattle.cfg_read.specs.Asts.{Ast}
use Rattle.cfg_read.specs.AstBuild.{with_tokens_of, with_texts_of, with_expected_of}
use Rattle.cfg_read.proofs.yacc.ast.GrammarAST.copy_all_of.Goals as goal

pub returns : goal.returns
returns c =
    let from : Ast = c.args.from.now in
    c.in_ok-copy_expected_of.ensures
    ∙ ap (with_expected_of from) c.in_ok-copy_texts_of.ensures
    ∙ ap (λ (a : Ast). with_expected_of from (with_texts_of from a)) c.in_ok-copy_tokens_of.ensures
    ∙ ap (λ (a : Ast). with_expected_of from (with_texts_of from (with_tokens_of from a))) c.in_ok-copy_rules_of.ensures
    ∙ ap (λ (b : Bool). record from { is_valid = b }) c.requires
