use Rattle.cfg_read.proofs.Measure.{outcome}
use Rattle.cfg_read.proofs.Next.{one_syntax, not_both, one_fault}
use Rattle.cfg_read.proofs.yacc.parser.laws.one_reading.Goals as goal

pub returns-clause-some : goal.returns-clause-some
returns-clause-some c = outcome

pub returns-clause-readings : goal.returns-clause-readings
returns-clause-readings c = one_syntax

pub returns-clause-apart : goal.returns-clause-apart
returns-clause-apart c = not_both

pub returns-clause-faults : goal.returns-clause-faults
returns-clause-faults c = one_fault
