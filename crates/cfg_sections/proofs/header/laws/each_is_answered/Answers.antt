use Rattle.cfg_sections.proofs.SectionTotal.{answered}
use Rattle.cfg_sections.proofs.header.laws.each_is_answered.Goals as goal

pub returns : goal.returns
returns c = answered
