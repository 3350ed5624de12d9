use Rattle.std.proofs.Common.{List, option_map, refl, ap, ◌∙◌}
use Rattle.std.specs.List.{find}
use Rattle.std.specs.Str.{bytes_eq}
use Rattle.cfg_base.specs.SpanModel.{SpanModel}
use Rattle.cfg_base.specs.declared.precedence.Precedence.{Precedence}
use Rattle.cfg_read.specs.Asts.{PrecedenceAst}
use Rattle.cfg_read.specs.AstModels.{named_precedence}
use Rattle.cfgrammar.proofs.FromAstLookups.{found_find}
use Rattle.cfgrammar.proofs.yacc.from_ast.info.precedence_of.Goals as goal

abbrev of : PrecedenceAst → Precedence
of p = record { level = p.level; kind = p.kind }

pub returns-in-Some : goal.returns-in-Some
returns-in-Some c =
    let q = c.args.name.now in
    ap (option_map (λ (v : Precedence × SpanModel). v.0)) c.in-Some.ensures.value
    ∙ found_find named_precedence (λ (p : PrecedenceAst). p.token.text) (λ (v : Precedence × SpanModel). v.0) of (λ e. refl) (λ e. refl) c.precs.result.now.entries q
    ∙ ap (λ (ps : List PrecedenceAst). option_map of (find (λ (p : PrecedenceAst). bytes_eq q p.token.text) ps)) c.precs.ensures

pub returns-in-None : goal.returns-in-None
returns-in-None c =
    let q = c.args.name.now in
    ap (option_map (λ (v : Precedence × SpanModel). v.0)) c.in-None.ensures.value
    ∙ found_find named_precedence (λ (p : PrecedenceAst). p.token.text) (λ (v : Precedence × SpanModel). v.0) of (λ e. refl) (λ e. refl) c.precs.result.now.entries q
    ∙ ap (λ (ps : List PrecedenceAst). option_map of (find (λ (p : PrecedenceAst). bytes_eq q p.token.text) ps)) c.precs.ensures
