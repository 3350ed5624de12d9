use Rattle.std.proofs.Common.{subst}
use Rattle.cfg_sections.specs.SectionResults.{IsSectionError}
use Rattle.cfg_sections.proofs.SectionRefusals.{section_refused}
use Rattle.cfg_sections.proofs.header.section.GrmtoolsSectionParser.parse_section.Goals as goal

pub returns-in-Err-clause-err : goal.returns-in-Err-clause-err
returns-in-Err-clause-err c = subst (λ s. IsSectionError s c.section_error.result) c.self.view_is (section_refused _ _ _ c.section_error.ensures c.in-Err.ensures.err)
