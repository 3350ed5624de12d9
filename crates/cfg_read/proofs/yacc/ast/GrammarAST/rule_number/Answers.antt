use Rattle.std.proofs.Common.{map, position, ap, ◌∙◌}
use Rattle.std.specs.Str.{bytes_eq}
use Rattle.cfg_read.specs.Asts.{Ast, RuleAst}
use Rattle.cfg_read.specs.NameTexts.{name_text}
use Rattle.cfg_read.proofs.KeyPlaces.{rule_texts}
use Rattle.cfg_read.proofs.yacc.ast.GrammarAST.rule_number.Goals as goal

pub returns : goal.returns
returns c =
    let q = name_text c.args.name.now in
    c.number_in.ensures
    ∙ ap (position (bytes_eq q)) (rule_texts c.self.inside.rules.entries)
    ∙ ap (λ (a : Ast). position (bytes_eq q) (map (λ (r : RuleAst). r.name.text) a.rules)) c.self.view_is
