use Rattle.std.proofs.Common.{sym, ◌∙◌}
use Rattle.std.proofs.lemmas.Result.{err_from_is_err_and}
use Rattle.cfg_sections.specs.Sections.{here, path, no_path, open_paren, no_paren}
use Rattle.cfg_sections.proofs.SectionChains.{one, join, and_then, join_fails, path_fails}
use Rattle.cfg_sections.proofs.SettingTexts.{unitary_text}
use Rattle.cfg_sections.proofs.header.scan.Scanner.parse_named.Goals as goal

pub returns-in_err-path-clause-err : goal.returns-in_err-path-clause-err
returns-in_err-path-clause-err c =
    let p = err_from_is_err_and c.from_residual.result c.from_residual.ensures.1 in
    rw (p.1, p.2) (λ k o x e. path_fails _ _ _ _ _ here (λ kind b h. no_path c.requires.token h) c.in_err-path.ensures.err)

pub returns-in_err-setting-clause-err : goal.returns-in_err-setting-clause-err
returns-in_err-setting-clause-err c =
    let p = err_from_is_err_and c.from_residual-in_err-setting.result c.from_residual-in_err-setting.ensures.1 in
    rw (p.1, p.2)
    (λ k o x e. join_fails _ _ _ _ (and_then (join (one (path c.requires.token c.in_ok-path.ensures.ok)) (c.parse_ws-end.ensures.steps _ _)) (open_paren (sym c.opens_paren.ensures.value ∙ c.if-opens_paren.true))) (c.in_err-setting.ensures.err _ _ _))

pub returns-in_ok-setting-clause-ok : goal.returns-in_ok-setting-clause-ok
returns-in_ok-setting-clause-ok c =
    λ k o x e. join (and_then (join (one (path c.requires.token c.in_ok-path.ensures.ok)) (c.parse_ws-end.ensures.steps _ _)) (open_paren (sym c.opens_paren.ensures.value ∙ c.if-opens_paren.true))) (c.in_ok-setting.ensures.ok _ _ _)

pub returns-else-opens_paren-clause-ok : goal.returns-else-opens_paren-clause-ok
returns-else-opens_paren-clause-ok c =
    rw (unitary_text c.in_ok-path.path) (λ k o x e. and_then (join (one (path c.requires.token c.in_ok-path.ensures.ok)) (c.parse_ws-end.ensures.steps _ _)) (no_paren (sym c.opens_paren.ensures.value ∙ c.if-opens_paren.false)))
