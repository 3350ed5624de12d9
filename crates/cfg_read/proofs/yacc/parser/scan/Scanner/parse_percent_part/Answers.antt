use Rattle.std.proofs.Common.{sym, ◌∙◌}
use Rattle.cfg_read.specs.Reading.{here, prec}
use Rattle.cfg_read.specs.SyntaxErrors.{late_prec, other_word}
use Rattle.cfg_read.proofs.Chains.{one, join, join_fails, and_stops}
use Rattle.std.proofs.lemmas.Result.{err_from_is_err_and}
use Rattle.cfg_read.proofs.yacc.parser.scan.Scanner.parse_percent_part.Goals as goal

pub returns-in_err-end-clause-err : goal.returns-in_err-end-clause-err
returns-in_err-end-clause-err c =
    let p = err_from_is_err_and c.from_residual.result c.from_residual.ensures.1 in
    rw (p.1, p.2) (λ r x. c.in_err-end.ensures.err r x)

pub returns-then-not-has_prec-clause-err : goal.returns-then-not-has_prec-clause-err
returns-then-not-has_prec-clause-err c = λ r x. and_stops here (other_word c.requires.percent (sym c.has_empty.ensures.value ∙ c.if-has_empty.false) (sym c.has_prec.ensures.value ∙ c.if-not-has_prec.true))

pub returns-then-not-is_open-clause-err : goal.returns-then-not-is_open-clause-err
returns-then-not-is_open-clause-err c = λ r x. and_stops here (late_prec (c.requires.percent, sym c.has_prec.ensures.value ∙ c.if-not-has_prec.false) (sym c.is_open.ensures ∙ c.if-not-is_open.true))

pub returns-in_err-end-2-clause-err : goal.returns-in_err-end-2-clause-err
returns-in_err-end-2-clause-err c =
    let p = err_from_is_err_and c.from_residual-in_err-end-2.result c.from_residual-in_err-end-2.ensures.1 in
    rw (p.1, p.2) (λ r x. join_fails _ (one (prec (c.requires.percent, sym c.has_prec.ensures.value ∙ c.if-not-has_prec.false) (sym c.is_open.ensures ∙ c.if-not-is_open.false))) (c.in_err-end-2.ensures.err r x))

pub returns-clause-ok : goal.returns-clause-ok
returns-clause-ok c = λ r x. join (one (prec (c.requires.percent, sym c.has_prec.ensures.value ∙ c.if-not-has_prec.false) (sym c.is_open.ensures ∙ c.if-not-is_open.false))) (c.in_ok-end-2.ensures.ok r x)
