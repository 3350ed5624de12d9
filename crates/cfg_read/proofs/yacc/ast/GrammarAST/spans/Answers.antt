use Rattle.std.proofs.Common.{map, ap, ◌∙◌}
use Rattle.cfg_read.specs.SyntaxTexts.{WordText}
use Rattle.cfg_read.specs.Asts.{Ast}
use Rattle.cfg_read.proofs.ChangeLemmas.{places_are}
use Rattle.cfg_read.proofs.yacc.ast.GrammarAST.spans.Goals as goal

pub returns : goal.returns
returns c =
    c.as_slice.ensures
    ∙ c.values.ensures.rest
    ∙ places_are c.self.inside.tokens.entries
    ∙ ap (λ (a : Ast). map (λ (w : WordText). w.span) a.tokens) c.self.view_is
