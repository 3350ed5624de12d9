use Rattle.std.proofs.lemmas.Result.{err_from_is_err_and}
use Rattle.cfg_sections.proofs.SectionRefusals.{repeats_refused}
use Rattle.cfg_sections.proofs.header.section.GrmtoolsSectionParser.parse.Goals as goal

pub returns-in_err-header-clause-err : goal.returns-in_err-header-clause-err
returns-in_err-header-clause-err c =
    let p = err_from_is_err_and c.from_residual-in_err-header.result c.from_residual-in_err-header.ensures.1 in
    rw (p.1, p.2) (repeats_refused _ _ _ _ c.in_ok-pairs.ensures.ok c.in_err-header.ensures.err)
