use Rattle.std.proofs.Common.{◌≡◌, true, [], sym, ap, ◌∙◌, subst}
use Rattle.cfg_read.specs.SyntaxTexts.{SyntaxText}
use Rattle.cfg_read.specs.SyntaxModels.{syntax_of}
use Rattle.cfg_read.specs.Asts.{ast_of}
use Rattle.cfg_read.specs.Judging.{with_rules, with_lines_of}
use Rattle.cfg_read.specs.LinesByName.{AreLinesOf}
use Rattle.cfg_read.proofs.yacc.validity_info.take_all.Goals as goal

pub take_names-requires-clause-lines : goal.take_names-requires-clause-lines
take_names-requires-clause-lines c = c.in-Ok.ensures

pub take_words-requires : goal.take_words-requires
take_words-requires c =
    let x = syntax_of c.args.x in
    let read : AreLinesOf x c.in-Ok.lines = c.in-Ok.ensures in
    subst (λ (y : SyntaxText). AreLinesOf y c.in-Ok.lines) (sym c.in-Ok-take_names.ensures.rest)
    (record { precedences_is = read.precedences_is; avoided_is = read.avoided_is; implicit_is = read.implicit_is })

pub returns-in_ok-take_words-in-Ok-take_names-clause-ast : goal.returns-in_ok-take_words-in-Ok-take_names-clause-ast
returns-in_ok-take_words-in-Ok-take_names-clause-ast c =
    c.in_ok-take_words-in-Ok-take_names.ensures
    ∙ ap (λ (y : SyntaxText). with_lines_of (ast_of true y) c.take_names.new.ast) c.in-Ok-take_names.ensures.rest
    ∙ c.in-Ok-take_names.ensures.ast
