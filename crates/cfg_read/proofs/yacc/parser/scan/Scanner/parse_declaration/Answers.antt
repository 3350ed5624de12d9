use Rattle.cfg_read.specs.Reading.{here}
use Rattle.cfg_read.specs.SyntaxErrors.{unknown_declaration}
use Rattle.cfg_read.proofs.Chains.{one, join, join_fails, and_stops}
use Rattle.cfg_read.proofs.Lines.{declared_to}
use Rattle.std.proofs.lemmas.Result.{err_from_is_err_and}
use Rattle.cfg_read.proofs.yacc.parser.scan.Scanner.parse_declaration.Goals as goal

pub returns-in_default-clause-err : goal.returns-in_default-clause-err
returns-in_default-clause-err c = and_stops here (unknown_declaration c.requires.percent c.in_default.ensures.value)

pub returns-in_err-end-clause-err : goal.returns-in_err-end-clause-err
returns-in_err-end-clause-err c =
    let p = err_from_is_err_and c.from_residual.result c.from_residual.ensures.1 in
    rw (p.1, p.2) (join_fails _ (one (declared_to _ c.requires.percent c.in-Some.ensures.value.0 c.in-Some.ensures.value.1)) c.in_err-end.ensures.err)

pub returns-clause-ok : goal.returns-clause-ok
returns-clause-ok c = join (one (declared_to _ c.requires.percent c.in-Some.ensures.value.0 c.in-Some.ensures.value.1)) c.in_ok-end.ensures.ok
