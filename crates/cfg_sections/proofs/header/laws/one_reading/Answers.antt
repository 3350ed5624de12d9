use Rattle.cfg_sections.proofs.SectionNext.{one_reading, not_both, one_fault}
use Rattle.cfg_sections.proofs.header.laws.one_reading.Goals as goal

pub returns-clause-readings : goal.returns-clause-readings
returns-clause-readings c = one_reading

pub returns-clause-apart : goal.returns-clause-apart
returns-clause-apart c = not_both

pub returns-clause-faults : goal.returns-clause-faults
returns-clause-faults c = one_fault
