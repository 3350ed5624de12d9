use Rattle.cfg_read.proofs.Chains.{join, join_fails}
use Rattle.std.proofs.lemmas.Result.{err_from_is_err_and}
use Rattle.cfg_read.proofs.yacc.parser.scan.Scanner.parse_part.Goals as goal

pub returns-in_err-parse_ws-clause-err : goal.returns-in_err-parse_ws-clause-err
returns-in_err-parse_ws-clause-err c =
    let p = err_from_is_err_and c.from_residual-in_err-parse_ws.result c.from_residual-in_err-parse_ws.ensures.1 in
    rw (p.1, p.2) (λ r x. join_fails _ (c.in_ok-end.ensures.ok r x) (c.in_err-parse_ws.ensures.err _ _))

pub returns-clause-ok : goal.returns-clause-ok
returns-clause-ok c = λ r x. join (c.in_ok-end.ensures.ok r x) (c.in_ok-parse_ws.ensures.ok _ _)
