use Rattle.std.proofs.Common.{◌≡◌, ◌∷◌, [], ◌++◌, ap, ◌∙◌}
use Rattle.std.proofs.lemmas.List.{map_push}
use Rattle.cfg_read.specs.SyntaxTexts.{WordText}
use Rattle.cfg_read.specs.SyntaxUpdates.{word}
use Rattle.cfg_read.specs.SyntaxModels.{words_of, syntax_of}
use Rattle.cfg_read.specs.Reading.{start_name}
use Rattle.cfg_read.specs.SyntaxErrors.{no_start_name}
use Rattle.cfg_read.proofs.Chains.{join, and_then, join_fails, fails_at}
use Rattle.std.proofs.lemmas.Result.{err_from_is_err_and}
use Rattle.cfg_read.proofs.yacc.parser.scan.Scanner.parse_start.Goals as goal

pub returns-in_err-start-clause-err : goal.returns-in_err-start-clause-err
returns-in_err-start-clause-err c =
    let p = err_from_is_err_and c.from_residual.result c.from_residual.ensures.1 in
    rw (p.1, p.2) (c.in_err-start.ensures.err _ _)

pub returns-in_err-word-clause-err : goal.returns-in_err-word-clause-err
returns-in_err-word-clause-err c =
    let p = err_from_is_err_and c.from_residual-in_err-word.result c.from_residual-in_err-word.ensures.1 in
    rw (p.1, p.2) (fails_at _ _ _ (c.in_ok-start.ensures.ok _ _) (λ k e. no_start_name e) c.in_err-word.ensures.err)

pub returns-in_err-parse_ws-clause-err : goal.returns-in_err-parse_ws-clause-err
returns-in_err-parse_ws-clause-err c =
    let p = err_from_is_err_and c.from_residual-in_err-parse_ws.result c.from_residual-in_err-parse_ws.ensures.1 in
    rw (p.1, p.2) (join_fails _ (and_then (c.in_ok-start.ensures.ok _ (syntax_of c.args.syntax.now)) (start_name c.in_ok-word.ensures.ok.0)) (c.in_err-parse_ws.ensures.err _ _))

pub returns-clause-ok : goal.returns-clause-ok
returns-clause-ok c =
    let pushed : words_of c.push.new.self.items ≡ words_of c.args.syntax.now.starts.items ++ word c.args.self.now.text.now c.in_ok-start.start c.in_ok-word.end ∷ [] =
    rw c.in_ok-push.ensures.items (map_push _ c.args.syntax.now.starts.items c.in_ok-word.word ∙ ap (λ (w : WordText). words_of c.args.syntax.now.starts.items ++ w ∷ []) c.in_ok-word.ensures.ok.1) in
    rw pushed (join (and_then (c.in_ok-start.ensures.ok _ (syntax_of c.args.syntax.now)) (start_name c.in_ok-word.ensures.ok.0)) (c.in_ok-parse_ws.ensures.ok _ _))
