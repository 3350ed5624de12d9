use Rattle.std.proofs.Common.{position, ap, ◌∙◌}
use Rattle.std.specs.Str.{bytes_eq}
use Rattle.cfg_read.specs.Asts.{Ast}
use Rattle.cfg_read.specs.Names.{texts}
use Rattle.cfg_read.specs.NameTexts.{name_text}
use Rattle.cfg_read.proofs.KeyPlaces.{span_texts}
use Rattle.cfg_read.proofs.yacc.ast.GrammarAST.token_number.Goals as goal

pub returns : goal.returns
returns c =
    let q = name_text c.args.name.now in
    c.number_in.ensures
    ∙ ap (position (bytes_eq q)) (span_texts c.self.inside.tokens.entries)
    ∙ ap (λ (a : Ast). position (bytes_eq q) (texts a.tokens)) c.self.view_is
