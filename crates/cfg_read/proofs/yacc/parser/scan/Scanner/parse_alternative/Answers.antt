use Rattle.std.proofs.Common.{◌<◌, not, length, sym, ap, ◌∙◌, arith}
use Rattle.cfg_read.specs.SyntaxErrors.{no_part_stands, alternative_fault}
use Rattle.cfg_read.specs.Scanning.{ends_alternative}
use Rattle.cfg_read.proofs.Tokens.{part_within, end_within}
use Rattle.cfg_read.proofs.Chains.{join, join_fails, fails_at}
use Rattle.std.proofs.lemmas.Result.{err_from_is_err_and}
use Rattle.cfg_read.proofs.yacc.parser.scan.Scanner.parse_alternative.Goals as goal

pub returns-in_err-end-clause-err : goal.returns-in_err-end-clause-err
returns-in_err-end-clause-err c =
    let p = err_from_is_err_and c.from_residual.result c.from_residual.ensures.1 in
    rw (p.1, p.2) (λ r x. c.in_err-end.ensures.err _ _)

pub returns-in_err-begins_part-clause-err : goal.returns-in_err-begins_part-clause-err
returns-in_err-begins_part-clause-err c =
    let p = err_from_is_err_and c.from_residual-in_err-begins_part.result c.from_residual-in_err-begins_part.ensures.1 in
    rw (p.1, p.2) (λ r x. fails_at _ _ _ (c.parts.invariant.steps r x) (λ k e. no_part_stands (ap alternative_fault c.parts.invariant.kind ∙ e)) c.in_err-begins_part.ensures.err)

pub returns-in_err-end-2-clause-err : goal.returns-in_err-end-2-clause-err
returns-in_err-end-2-clause-err c =
    let p = err_from_is_err_and c.from_residual-in_err-end-2.result c.from_residual-in_err-end-2.ensures.1 in
    rw (p.1, p.2) (λ r x. join_fails _ (c.parts.invariant.steps r x) (c.in_err-end-2.ensures.err r x))

pub parts-preserved : goal.parts-preserved
parts-preserved c =
    let more = c.in_ok-end-2.ensures.more in
    record { from = omega arith; starts = c.in_ok-end-2.ensures.starts; kind = sym c.token_kind_at-kind-in-parts.ensures.value; fits = c.token_kind_at-kind-in-parts.ensures.fits; steps = λ r x. join (c.parts.invariant.steps r x) (c.in_ok-end-2.ensures.ok r x) }

pub parts-smaller : goal.parts-smaller
parts-smaller c =
    let within : c.parts.end < length c.args.self.now.text.now = part_within c.args.self.now.text.now c.parts.end c.parts.kind (c.in_ok-begins_part.ensures.ok.0 ∙ c.if-branch.true) c.parts.invariant.fits in
    let more = c.in_ok-end-2.ensures.more in
    omega arith

pub returns-clause-end : goal.returns-clause-end
returns-clause-end c = ap ends_alternative c.parts.invariant.kind ∙ c.in_ok-begins_part.ensures.ok.1 ∙ ap not c.if-branch.false

pub returns-clause-within : goal.returns-clause-within
returns-clause-within c = (
  c.parts.invariant.from,
  end_within c.args.self.now.text.now c.parts.end c.parts.kind (c.in_ok-begins_part.ensures.ok.1 ∙ ap not c.if-branch.false) c.parts.invariant.fits,
)
