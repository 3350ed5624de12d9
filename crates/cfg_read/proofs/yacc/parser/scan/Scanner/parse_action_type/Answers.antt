use Rattle.std.proofs.Common.{◌≡◌, ◌∷◌, [], ◌++◌}
use Rattle.std.proofs.lemmas.List.{map_push}
use Rattle.cfg_read.specs.SyntaxModels.{word_of, words_of, syntax_of}
use Rattle.cfg_read.specs.Reading.{here}
use Rattle.cfg_read.specs.SyntaxErrors.{nothing_on_line}
use Rattle.cfg_read.proofs.Chains.{one, join, join_fails, fails_by}
use Rattle.cfg_read.proofs.Lines.{action_type_to}
use Rattle.std.proofs.lemmas.Result.{err_from_is_err_and}
use Rattle.cfg_read.proofs.yacc.parser.scan.Scanner.parse_action_type.Goals as goal

pub returns-in_err-word-clause-err : goal.returns-in_err-word-clause-err
returns-in_err-word-clause-err c =
    let p = err_from_is_err_and c.from_residual.result c.from_residual.ensures.1 in
    rw (p.1, p.2) (fails_by _ _ _ here (λ e. nothing_on_line e) c.in_err-word.ensures.err)

pub returns-in_err-parse_ws-clause-err : goal.returns-in_err-parse_ws-clause-err
returns-in_err-parse_ws-clause-err c =
    let p = err_from_is_err_and c.from_residual-in_err-parse_ws.result c.from_residual-in_err-parse_ws.ensures.1 in
    rw (p.1, p.2) (join_fails _ (one (action_type_to {x = syntax_of c.args.syntax.now} _ c.in_ok-word.ensures.ok.0 c.in_ok-word.ensures.ok.1)) (c.in_err-parse_ws.ensures.err _ _))

pub returns-clause-ok : goal.returns-clause-ok
returns-clause-ok c =
    let pushed : words_of c.push.new.self.items ≡ words_of c.args.syntax.now.action_types.items ++ word_of c.in_ok-word.word ∷ [] = rw c.in_ok-push.ensures.items (map_push _ c.args.syntax.now.action_types.items c.in_ok-word.word) in
    rw pushed (join (one (action_type_to {x = syntax_of c.args.syntax.now} _ c.in_ok-word.ensures.ok.0 c.in_ok-word.ensures.ok.1)) (c.in_ok-parse_ws.ensures.ok _ _))
