use Rattle.std.proofs.Common.{◌≡◌, true, [], sym, ap, ◌∙◌, subst}
use Rattle.cfg_read.specs.SyntaxTexts.{SyntaxText}
use Rattle.cfg_read.specs.SyntaxModels.{syntax_of}
use Rattle.cfg_read.specs.Asts.{ast_of}
use Rattle.cfg_read.specs.AstModels.{named_spans}
use Rattle.cfg_read.specs.Settling.{UsesText, uses_of}
use Rattle.cfg_read.specs.NameTables.{known_before}
use Rattle.cfg_read.specs.Judging.{IsJudged, with_lines_of}
use Rattle.cfg_read.specs.LinesByName.{AreLinesOf}
use Rattle.cfg_read.proofs.Judged.{filled, judged_whole}
use Rattle.cfg_read.proofs.yacc.validity_info.take_names.Goals as goal

pub take_rules-requires-clause-uses : goal.take_rules-requires-clause-uses
take_rules-requires-clause-uses c = c.in_ok-uses.ensures.known ∙ ap (λ (y : SyntaxText). (let u : UsesText = record { known = known_before y; unknown = []; fresh = [] } in u)) (sym c.in_ok-uses.ensures.same)

pub take_rules-requires-clause-lines : goal.take_rules-requires-clause-lines
take_rules-requires-clause-lines c =
    let read : AreLinesOf (syntax_of c.args.x.now) c.args.lines.now = record { precedences_is = c.requires.lines.precedences_is; avoided_is = c.requires.lines.avoided_is; implicit_is = c.requires.lines.implicit_is } in
    subst (λ (y : SyntaxText). AreLinesOf y c.args.lines.now) (sym c.in_ok-uses.ensures.same) read

pub returns-in-Ok-take_rules-clause-ast : goal.returns-in-Ok-take_rules-clause-ast
returns-in-Ok-take_rules-clause-ast c =
    let x = syntax_of c.args.x.now in
    let same : syntax_of c.uses_before.new.x ≡ x = c.in_ok-uses.ensures.same in
    let u = uses_of c.take_rules.new.uses in
    let judged : IsJudged x u c.fill.new.self c.take_rules.new.ast = subst (λ (y : SyntaxText). IsJudged y u c.fill.new.self c.take_rules.new.ast) same c.in-Ok-take_rules.ensures.rules in
    let begins = c.in-Ok.ensures ∙ ap (λ (y : SyntaxText). filled y c.args.ast.now) same ∙ ap (filled x) c.requires.empty in
    ap (with_lines_of (ast_of true x)) c.set_tokens.ensures
    ∙ judged_whole x c.none_of.result u c.fill.new.self c.take_rules.new.ast (named_spans c.tokens_in.result) judged begins c.tokens_in.ensures
    ∙ ap (λ b. ast_of b x) c.none_of.ensures
