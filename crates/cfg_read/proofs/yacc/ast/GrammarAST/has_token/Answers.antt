use Rattle.std.proofs.Common.{ap, ◌∙◌}
use Rattle.cfg_read.specs.Asts.{Ast}
use Rattle.cfg_read.specs.Names.{is_among}
use Rattle.cfg_read.proofs.AstLemmas.{found_among}
use Rattle.cfg_read.proofs.yacc.ast.GrammarAST.has_token.Goals as goal

pub returns : goal.returns
returns c =
    let q = c.args.name.now in
    c.contains_key.ensures ∙ found_among c.self.inside.tokens.entries q ∙ ap (λ (a : Ast). is_among a.tokens q) c.self.view_is
