use Rattle.std.proofs.Common.{sym, ap, ◌∙◌}
use Rattle.cfg_read.specs.SyntaxErrors.{no_prec_token, token_fault}
use Rattle.cfg_read.proofs.Symbols.{prec_word}
use Rattle.cfg_read.proofs.Chains.{and_then, and_stops, fails_at}
use Rattle.cfg_read.proofs.Drafts.{no_token, token_begins, nothing_wrong}
use Rattle.std.proofs.lemmas.Result.{err_from_is_err_and}
use Rattle.cfg_read.proofs.yacc.parser.scan.Scanner.parse_prec_token.Goals as goal

pub returns-in_err-start-clause-err : goal.returns-in_err-start-clause-err
returns-in_err-start-clause-err c =
    let p = err_from_is_err_and c.from_residual.result c.from_residual.ensures.1 in
    rw (p.1, p.2) (λ r x. c.in_err-start.ensures.err _ _)

pub returns-then-not-begins_token-clause-err : goal.returns-then-not-begins_token-clause-err
returns-then-not-begins_token-clause-err c = λ r x.
    let wrong = no_token c.token_kind_at.result (sym c.begins_token.ensures ∙ c.if-not-begins_token.true) in
    and_stops (c.in_ok-start.ensures.ok _ _) (no_prec_token (ap token_fault (sym c.token_kind_at.ensures.value) ∙ wrong.1))

pub returns-in_err-word-clause-err : goal.returns-in_err-word-clause-err
returns-in_err-word-clause-err c =
    let p = err_from_is_err_and c.from_residual-in_err-word.result c.from_residual-in_err-word.ensures.1 in
    rw (p.1, p.2) (λ r x. fails_at _ _ _ (c.in_ok-start.ensures.ok _ _) (λ k e. absurd (nothing_wrong k (sym (token_begins c.token_kind_at.result (sym c.begins_token.ensures ∙ c.if-not-begins_token.false)) ∙ ap token_fault c.token_kind_at.ensures.value ∙ e))) c.in_err-word.ensures.err)

pub returns-clause-ok : goal.returns-clause-ok
returns-clause-ok c = λ r x. rw (c.add_precedence.ensures.value, c.in_ok-new.ensures.ok) (and_then (c.in_ok-start.ensures.ok _ _) (prec_word c.in_ok-word.ensures.ok))
