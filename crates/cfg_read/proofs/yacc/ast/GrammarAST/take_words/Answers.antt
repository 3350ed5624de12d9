use Rattle.std.proofs.Common.{Vec, true, [], map, fold, ap, ◌∙◌}
use Rattle.std.specs.declared.alloc.Global.{Global}
use Rattle.cfg_read.specs.declared.yacc.parser.syntax.Epp.{Epp}
use Rattle.cfg_read.specs.contracts.yacc.ast.GrammarAST.{the_view}
use Rattle.cfg_read.specs.Asts.{ast_of, with_epp_of}
use Rattle.cfg_read.specs.SyntaxModels.{epp_of, syntax_of}
use Rattle.cfg_read.specs.Judging.{with_lines_of}
use Rattle.cfg_read.proofs.ChangeLemmas.{lines_put}
use Rattle.cfg_read.proofs.yacc.ast.GrammarAST.take_words.Goals as goal

pub returns : goal.returns
returns c =
    let x = syntax_of c.args.x in
    let texts = c.in-Ok.ensures ∙ ap (λ (es : Vec Epp Global). fold with_epp_of [] (map epp_of es.items)) c.epp_in.ensures in
    lines_put (the_view c.self.inside) c.requires.precedences_is c.requires.avoided_is c.requires.implicit_is texts
    ∙ ap (with_lines_of (ast_of true x)) c.self.view_is
