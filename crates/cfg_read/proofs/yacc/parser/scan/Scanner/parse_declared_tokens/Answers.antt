use Rattle.std.proofs.Common.{◌≡◌, ◌∷◌, [], ◌++◌, sym, ap, ◌∙◌, arith}
use Rattle.std.proofs.lemmas.List.{map_push}
use Rattle.cfg_read.specs.SyntaxModels.{symbol_of, symbols_of}
use Rattle.cfg_read.specs.Reading.{ends_tokens, declared_token, tokens_end}
use Rattle.cfg_read.specs.SyntaxErrors.{no_declared_token}
use Rattle.cfg_read.proofs.Chains.{join, and_then, join_fails, fails_at}
use Rattle.std.proofs.lemmas.Result.{err_from_is_err_and}
use Rattle.cfg_read.proofs.yacc.parser.scan.Scanner.parse_declared_tokens.Goals as goal

pub returns-in_err-end-clause-err : goal.returns-in_err-end-clause-err
returns-in_err-end-clause-err c =
    let p = err_from_is_err_and c.from_residual.result c.from_residual.ensures.1 in
    rw (p.1, p.2) (c.in_err-end.ensures.err _ _)

pub returns-in_err-token-clause-err : goal.returns-in_err-token-clause-err
returns-in_err-token-clause-err c =
    let p = err_from_is_err_and c.from_residual-in_err-token.result c.from_residual-in_err-token.ensures.1 in
    rw (p.1, p.2) (fails_at _ _ _ c.tokens.invariant.steps (λ k e. no_declared_token (ap ends_tokens (sym c.token_kind_at.ensures.value) ∙ sym c.ends_tokens.ensures ∙ c.tokens-test.true) e) c.in_err-token.ensures.err)

pub returns-in_err-end-2-clause-err : goal.returns-in_err-end-2-clause-err
returns-in_err-end-2-clause-err c =
    let p = err_from_is_err_and c.from_residual-in_err-end-2.result c.from_residual-in_err-end-2.ensures.1 in
    rw (p.1, p.2) (join_fails _ (and_then c.tokens.invariant.steps (declared_token c.in_ok-token.ensures.ok)) (c.in_err-end-2.ensures.err _ _))

pub tokens-preserved : goal.tokens-preserved
tokens-preserved c =
    let within = c.in_ok-token.ensures.within in
    let after = c.in_ok-end-2.ensures.from in
    let pushed : symbols_of c.push.new.self.items ≡ symbols_of c.tokens.syntax.tokens.items ++ symbol_of c.in_ok-token.token ∷ [] = rw c.in_ok-push.ensures.items (map_push _ c.tokens.syntax.tokens.items c.in_ok-token.token) in
    record {
      from = omega arith;
      steps = rw pushed (join (and_then c.tokens.invariant.steps (declared_token c.in_ok-token.ensures.ok)) (c.in_ok-end-2.ensures.ok _ _));
    }

pub returns-clause-ok : goal.returns-clause-ok
returns-clause-ok c = and_then c.tokens.invariant.steps (tokens_end (ap ends_tokens (sym c.token_kind_at.ensures.value) ∙ sym c.ends_tokens.ensures ∙ c.tokens-test.false))
