use Rattle.cfg_read.specs.Reading.{here, rule_name}
use Rattle.cfg_read.proofs.Drafts.{named}
use Rattle.cfg_read.proofs.Chains.{one, join, join_fails, fails_at}
use Rattle.std.proofs.lemmas.Result.{err_from_is_err_and}
use Rattle.cfg_read.proofs.yacc.parser.scan.Scanner.parse_rule.Goals as goal

pub returns-in_err-name-clause-err : goal.returns-in_err-name-clause-err
returns-in_err-name-clause-err c =
    let p = err_from_is_err_and c.from_residual.result c.from_residual.ensures.1 in
    rw (p.1, p.2) (λ x. fails_at _ _ _ here (λ k e. absurd (named _ k c.requires.name e)) c.in_err-name.ensures.err)

pub returns-in_err-start-clause-err : goal.returns-in_err-start-clause-err
returns-in_err-start-clause-err c =
    let p = err_from_is_err_and c.from_residual-in_err-start.result c.from_residual-in_err-start.ensures.1 in
    rw (p.1, p.2) (λ x. join_fails _ (one (rule_name c.in_ok-name.ensures.ok.0)) (c.in_err-start.ensures.err _ _))

pub returns-in_err-action_type-clause-err : goal.returns-in_err-action_type-clause-err
returns-in_err-action_type-clause-err c =
    let p = err_from_is_err_and c.from_residual-in_err-action_type.result c.from_residual-in_err-action_type.ensures.1 in
    rw (p.1, p.2) (λ x. join_fails _ (join (one (rule_name c.in_ok-name.ensures.ok.0)) (c.in_ok-start.ensures.ok _ _)) (c.in_err-action_type.ensures.err _ _))

pub returns-in_err-alternatives-clause-err : goal.returns-in_err-alternatives-clause-err
returns-in_err-alternatives-clause-err c =
    let p = err_from_is_err_and c.from_residual-in_err-alternatives.result c.from_residual-in_err-alternatives.ensures.1 in
    rw (p.1, p.2) (λ x. join_fails _ (join (join (one (rule_name c.in_ok-name.ensures.ok.0)) (c.in_ok-start.ensures.ok _ _)) (c.in_ok-action_type.ensures.ok _ _)) (c.in_err-alternatives.ensures.err _ _ _))

pub returns-clause-ok : goal.returns-clause-ok
returns-clause-ok c = rw c.in_ok-name.ensures.ok.1 (λ x. join (join (join (one (rule_name c.in_ok-name.ensures.ok.0)) (c.in_ok-start.ensures.ok _ _)) (c.in_ok-action_type.ensures.ok _ _)) (c.in_ok-alternatives.ensures.ok _ _ _))
