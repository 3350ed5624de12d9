use Rattle.std.proofs.lemmas.Result.{err_from_is_err_and}
use Rattle.cfg_sections.specs.Sections.{argument, no_argument}
use Rattle.cfg_sections.proofs.SectionChains.{join, and_then, join_fails, path_fails}
use Rattle.cfg_sections.proofs.SettingTexts.{construct_text}
use Rattle.cfg_sections.proofs.header.scan.Scanner.parse_constructor.Goals as goal

pub returns-in_err-arg-clause-err : goal.returns-in_err-arg-clause-err
returns-in_err-arg-clause-err c =
    let p = err_from_is_err_and c.from_residual.result c.from_residual.ensures.1 in
    rw (p.1, p.2) (λ k o x. path_fails _ _ _ _ _ (c.parse_ws-start.ensures.steps _ _) (λ e b h. no_argument h) c.in_err-arg.ensures.err)

pub returns-in_err-end-clause-err : goal.returns-in_err-end-clause-err
returns-in_err-end-clause-err c =
    let p = err_from_is_err_and c.from_residual-in_err-end.result c.from_residual-in_err-end.ensures.1 in
    rw (p.1, p.2) (λ k o x. join_fails _ _ _ _ (join (and_then (c.parse_ws-start.ensures.steps _ _) (argument c.in_ok-arg.ensures.ok)) (c.parse_ws.ensures.steps _ _)) (c.in_err-end.ensures.err _ _ _ _ _))

pub returns-clause-ok : goal.returns-clause-ok
returns-clause-ok c =
    rw (construct_text c.args.ctor c.in_ok-arg.arg) (λ k o x. join (join (and_then (c.parse_ws-start.ensures.steps _ _) (argument c.in_ok-arg.ensures.ok)) (c.parse_ws.ensures.steps _ _)) (c.in_ok-end.ensures.ok _ _ _ _ _))
