use Rattle.std.proofs.Common.{subst}
use Rattle.cfg_sections.specs.SectionSource.{SectionSource}
use Rattle.cfg_sections.specs.SectionResults.{IsKeyValueError}
use Rattle.cfg_sections.proofs.SectionRefusals.{pair_refused}
use Rattle.cfg_sections.proofs.header.section.GrmtoolsSectionParser.parse_key_value.Goals as goal

pub returns-in-Err-clause-err : goal.returns-in-Err-clause-err
returns-in-Err-clause-err c =
    let source : SectionSource = record { text = c.self.inside.src.now; required = c.self.inside.required } in
    subst (λ s. IsKeyValueError s c.args.i c.key_value_error.result) c.self.view_is (pair_refused source _ _ _ c.key_value_error.ensures c.in-Err.ensures.err)
