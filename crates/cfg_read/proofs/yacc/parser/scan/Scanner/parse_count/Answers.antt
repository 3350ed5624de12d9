use Rattle.cfg_read.specs.SyntaxModels.{syntax_of}
use Rattle.cfg_read.specs.SyntaxErrors.{no_number}
use Rattle.cfg_read.proofs.Chains.{join, and_then, and_stops, join_fails}
use Rattle.cfg_read.proofs.Lines.{number_to}
use Rattle.std.proofs.lemmas.Result.{err_from_is_err_and}
use Rattle.cfg_read.proofs.yacc.parser.scan.Scanner.parse_count.Goals as goal

pub returns-in_err-start-clause-err : goal.returns-in_err-start-clause-err
returns-in_err-start-clause-err c =
    let p = err_from_is_err_and c.from_residual.result c.from_residual.ensures.1 in
    rw (p.1, p.2) (c.in_err-start.ensures.err _ _)

pub returns-in_default-clause-err : goal.returns-in_default-clause-err
returns-in_default-clause-err c = and_stops (c.in_ok-start.ensures.ok _ _) (no_number c.in_default.ensures.value)

pub returns-in_err-parse_ws-clause-err : goal.returns-in_err-parse_ws-clause-err
returns-in_err-parse_ws-clause-err c =
    let p = err_from_is_err_and c.from_residual-in_err-parse_ws.result c.from_residual-in_err-parse_ws.ensures.1 in
    rw (p.1, p.2) (join_fails _ (and_then (c.in_ok-start.ensures.ok _ (syntax_of c.args.syntax.now)) (number_to _ c.in-Some.ensures.value)) (c.in_err-parse_ws.ensures.err _ _))

pub returns-clause-ok : goal.returns-clause-ok
returns-clause-ok c = rw c.in_ok-add_number.ensures (join (and_then (c.in_ok-start.ensures.ok _ (syntax_of c.args.syntax.now)) (number_to _ c.in-Some.ensures.value)) (c.in_ok-parse_ws.ensures.ok _ _))
