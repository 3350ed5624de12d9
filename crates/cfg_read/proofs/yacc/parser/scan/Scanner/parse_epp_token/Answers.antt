use Rattle.cfg_read.specs.SyntaxErrors.{no_epp_token}
use Rattle.cfg_read.proofs.Symbols.{epp_word}
use Rattle.cfg_read.proofs.Chains.{join, and_then, join_fails, fails_at}
use Rattle.std.proofs.lemmas.Result.{err_from_is_err_and}
use Rattle.cfg_read.proofs.yacc.parser.scan.Scanner.parse_epp_token.Goals as goal

pub returns-in_err-start-clause-err : goal.returns-in_err-start-clause-err
returns-in_err-start-clause-err c =
    let p = err_from_is_err_and c.from_residual.result c.from_residual.ensures.1 in
    rw (p.1, p.2) (λ x. c.in_err-start.ensures.err _ _)

pub returns-in_err-token-clause-err : goal.returns-in_err-token-clause-err
returns-in_err-token-clause-err c =
    let p = err_from_is_err_and c.from_residual-in_err-token.result c.from_residual-in_err-token.ensures.1 in
    rw (p.1, p.2) (λ x. fails_at _ _ _ (c.in_ok-start.ensures.ok _ _) (λ k e. no_epp_token e) c.in_err-token.ensures.err)

pub returns-in_err-end-clause-err : goal.returns-in_err-end-clause-err
returns-in_err-end-clause-err c =
    let p = err_from_is_err_and c.from_residual-in_err-end.result c.from_residual-in_err-end.ensures.1 in
    rw (p.1, p.2) (λ x. join_fails _ (and_then (c.in_ok-start.ensures.ok _ x) (epp_word c.in_ok-token.ensures.ok)) (c.in_err-end.ensures.err _ _))

pub returns-clause-ok : goal.returns-clause-ok
returns-clause-ok c = λ x. join (and_then (c.in_ok-start.ensures.ok _ x) (epp_word c.in_ok-token.ensures.ok)) (c.in_ok-end.ensures.ok _ _)
