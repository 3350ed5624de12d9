use Rattle.std.proofs.Common.{subst}
use Rattle.cfg_sections.specs.SectionResults.{ReadsHeader, IsSectionError}
use Rattle.cfg_read.proofs.FileFailures.{section_shown, source_is}
use Rattle.cfg_read.proofs.yacc.file.read_section.Goals as goal

pub returns-in-Ok-clause-ok : goal.returns-in-Ok-clause-ok
returns-in-Ok-clause-ok c =
    subst (λ s. ReadsHeader s c.in-Ok.read.0 c.in-Ok.read.1) (source_is c.new.result c.args.text.now c.new.ensures.text c.new.ensures.required) c.in-Ok.ensures.ok

pub returns-in-Err-clause-err : goal.returns-in-Err-clause-err
returns-in-Err-clause-err c =
    section_shown c.args.text.now c.in-Err.e c.section_failure.result c.section_failure.ensures
    (subst (λ s. IsSectionError s c.in-Err.e) (source_is c.new.result c.args.text.now c.new.ensures.text c.new.ensures.required) c.in-Err.ensures.err)
