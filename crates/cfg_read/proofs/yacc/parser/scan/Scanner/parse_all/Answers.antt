use Rattle.std.proofs.lemmas.Result.{err_from_is_err_and}
use Rattle.cfg_read.proofs.Chains.{join, join_fails}
use Rattle.cfg_read.proofs.yacc.parser.scan.Scanner.parse_all.Goals as goal

pub returns-in_err-rules-clause-err : goal.returns-in_err-rules-clause-err
returns-in_err-rules-clause-err c =
    let p = err_from_is_err_and c.from_residual.result c.from_residual.ensures.1 in
    rw (p.1, p.2) c.in_err-rules.ensures.err

pub returns-in_err-end-clause-err : goal.returns-in_err-end-clause-err
returns-in_err-end-clause-err c =
    let p = err_from_is_err_and c.from_residual-in_err-end.result c.from_residual-in_err-end.ensures.1 in
    rw (p.1, p.2) (join_fails _ c.in_ok-rules.ensures.ok c.in_err-end.ensures.err)

pub returns-clause-ok : goal.returns-clause-ok
returns-clause-ok c =
    let last_part = c.in_ok-parse_last_part.ensures.ok in
    (last_part.0, join c.in_ok-rules.ensures.ok (join c.in_ok-end.ensures.ok last_part.1))
