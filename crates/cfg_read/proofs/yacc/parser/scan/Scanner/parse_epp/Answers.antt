use Rattle.std.proofs.Common.{◌≡◌, ◌∷◌, [], ◌++◌}
use Rattle.std.specs.Prelude.{map}
use Rattle.std.proofs.lemmas.List.{map_push}
use Rattle.cfg_read.specs.SyntaxModels.{word_of, epp_of, syntax_of}
use Rattle.cfg_read.proofs.Chains.{join, and_then, join_fails}
use Rattle.cfg_read.proofs.Lines.{string_to, string_fails}
use Rattle.std.proofs.lemmas.Result.{err_from_is_err_and}
use Rattle.cfg_read.proofs.yacc.parser.scan.Scanner.parse_epp.Goals as goal

pub returns-in_err-token-clause-err : goal.returns-in_err-token-clause-err
returns-in_err-token-clause-err c =
    let p = err_from_is_err_and c.from_residual.result c.from_residual.ensures.1 in
    rw (p.1, p.2) (c.in_err-token.ensures.err _)

pub returns-in_err-text-clause-err : goal.returns-in_err-text-clause-err
returns-in_err-text-clause-err c =
    let p = err_from_is_err_and c.from_residual-in_err-text.result c.from_residual-in_err-text.ensures.1 in
    rw (p.1, p.2) (string_fails _ (c.in_ok-token.ensures.ok (syntax_of c.args.syntax.now)) c.in_err-text.ensures.err)

pub returns-in_err-parse_ws-clause-err : goal.returns-in_err-parse_ws-clause-err
returns-in_err-parse_ws-clause-err c =
    let p = err_from_is_err_and c.from_residual-in_err-parse_ws.result c.from_residual-in_err-parse_ws.ensures.1 in
    rw (p.1, p.2) (join_fails _ (and_then (c.in_ok-token.ensures.ok (syntax_of c.args.syntax.now)) (string_to c.in_ok-text.ensures.ok)) (c.in_err-parse_ws.ensures.err _ _))

pub returns-clause-ok : goal.returns-clause-ok
returns-clause-ok c =
    let pushed : map epp_of c.push.new.self.items ≡ map epp_of c.args.syntax.now.epp.items ++ record { token = word_of c.in_ok-token.token; text = word_of c.in_ok-text.text } ∷ [] = rw c.in_ok-push.ensures.items (map_push _ c.args.syntax.now.epp.items _) in
    rw pushed (join (and_then (c.in_ok-token.ensures.ok (syntax_of c.args.syntax.now)) (string_to c.in_ok-text.ensures.ok)) (c.in_ok-parse_ws.ensures.ok _ _))
