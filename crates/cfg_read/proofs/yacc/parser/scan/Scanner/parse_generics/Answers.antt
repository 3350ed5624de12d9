use Rattle.cfg_read.specs.SyntaxModels.{syntax_of}
use Rattle.cfg_read.specs.Reading.{here}
use Rattle.cfg_read.specs.SyntaxErrors.{nothing_on_line}
use Rattle.cfg_read.proofs.Chains.{one, join, join_fails, fails_by}
use Rattle.cfg_read.proofs.Lines.{parse_generics_to}
use Rattle.std.proofs.lemmas.Result.{err_from_is_err_and}
use Rattle.cfg_read.proofs.yacc.parser.scan.Scanner.parse_generics.Goals as goal

pub returns-in_err-word-clause-err : goal.returns-in_err-word-clause-err
returns-in_err-word-clause-err c =
    let p = err_from_is_err_and c.from_residual.result c.from_residual.ensures.1 in
    rw (p.1, p.2) (fails_by _ _ _ here (λ e. nothing_on_line e) c.in_err-word.ensures.err)

pub returns-in_err-parse_ws-clause-err : goal.returns-in_err-parse_ws-clause-err
returns-in_err-parse_ws-clause-err c =
    let p = err_from_is_err_and c.from_residual-in_err-parse_ws.result c.from_residual-in_err-parse_ws.ensures.1 in
    rw (p.1, p.2) (join_fails _ (one (parse_generics_to {x = syntax_of c.args.syntax.now} _ c.in_ok-word.ensures.ok.0 c.in_ok-word.ensures.ok.1)) (c.in_err-parse_ws.ensures.err _ _))

pub returns-clause-ok : goal.returns-clause-ok
returns-clause-ok c = join (one (parse_generics_to {x = syntax_of c.args.syntax.now} _ c.in_ok-word.ensures.ok.0 c.in_ok-word.ensures.ok.1)) (c.in_ok-parse_ws.ensures.ok _ _)
