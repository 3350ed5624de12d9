use Rattle.std.proofs.Common.{ap, ◌∙◌, arith}
use Rattle.cfg_read.specs.Reading.{separator}
use Rattle.cfg_read.specs.SyntaxErrors.{no_declaration}
use Rattle.cfg_read.specs.Scanning.{percent_or_separator}
use Rattle.cfg_read.proofs.Chains.{join, and_then, join_fails, fails_at}
use Rattle.std.proofs.lemmas.Result.{err_from_is_err_and}
use Rattle.cfg_read.proofs.yacc.parser.scan.Scanner.parse_declarations.Goals as goal

pub returns-in_err-end-clause-err : goal.returns-in_err-end-clause-err
returns-in_err-end-clause-err c =
    let p = err_from_is_err_and c.from_residual.result c.from_residual.ensures.1 in
    rw (p.1, p.2) (c.in_err-end.ensures.err _ _)

pub returns-in_err-begins_declaration-clause-err : goal.returns-in_err-begins_declaration-clause-err
returns-in_err-begins_declaration-clause-err c =
    let p = err_from_is_err_and c.from_residual-in_err-begins_declaration.result c.from_residual-in_err-begins_declaration.ensures.1 in
    rw (p.1, p.2) (fails_at _ _ _ c.declarations.invariant.steps (λ k e. no_declaration e) c.in_err-begins_declaration.ensures.err)

pub returns-in_err-end-2-clause-err : goal.returns-in_err-end-2-clause-err
returns-in_err-end-2-clause-err c =
    let p = err_from_is_err_and c.from_residual-in_err-end-2.result c.from_residual-in_err-end-2.ensures.1 in
    rw (p.1, p.2) (join_fails _ c.declarations.invariant.steps c.in_err-end-2.ensures.err)

pub declarations-preserved : goal.declarations-preserved
declarations-preserved c =
    let within = c.in_ok-end-2.ensures.within in
    record { from = omega arith; steps = join c.declarations.invariant.steps c.in_ok-end-2.ensures.ok }

pub returns-clause-ok : goal.returns-clause-ok
returns-clause-ok c = and_then c.declarations.invariant.steps (separator (c.in_ok-begins_declaration.ensures.ok ∙ ap percent_or_separator c.if-branch.false))
