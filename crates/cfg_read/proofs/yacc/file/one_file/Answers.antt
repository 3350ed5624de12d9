use Rattle.cfg_read.proofs.WholeFiles.{SectionLaws, RestLaws, file_outcome, one_syntax, not_both, one_failure}
use Rattle.cfg_read.proofs.yacc.file.one_file.Goals as goal

pub returns-clause-some : goal.returns-clause-some
returns-clause-some c =
    let s : SectionLaws = record { some = c.each_is_answered.ensures; readings = c.one_reading.ensures.readings; apart = c.one_reading.ensures.apart; faults = c.one_reading.ensures.faults } in
    let r : RestLaws = record { some = c.one_reading-2.ensures.some; readings = c.one_reading-2.ensures.readings; apart = c.one_reading-2.ensures.apart; faults = c.one_reading-2.ensures.faults } in
    file_outcome s r

pub returns-clause-readings : goal.returns-clause-readings
returns-clause-readings c =
    let s : SectionLaws = record { some = c.each_is_answered.ensures; readings = c.one_reading.ensures.readings; apart = c.one_reading.ensures.apart; faults = c.one_reading.ensures.faults } in
    let r : RestLaws = record { some = c.one_reading-2.ensures.some; readings = c.one_reading-2.ensures.readings; apart = c.one_reading-2.ensures.apart; faults = c.one_reading-2.ensures.faults } in
    one_syntax s r

pub returns-clause-apart : goal.returns-clause-apart
returns-clause-apart c =
    let s : SectionLaws = record { some = c.each_is_answered.ensures; readings = c.one_reading.ensures.readings; apart = c.one_reading.ensures.apart; faults = c.one_reading.ensures.faults } in
    let r : RestLaws = record { some = c.one_reading-2.ensures.some; readings = c.one_reading-2.ensures.readings; apart = c.one_reading-2.ensures.apart; faults = c.one_reading-2.ensures.faults } in
    not_both s r

pub returns-clause-faults : goal.returns-clause-faults
returns-clause-faults c =
    let s : SectionLaws = record { some = c.each_is_answered.ensures; readings = c.one_reading.ensures.readings; apart = c.one_reading.ensures.apart; faults = c.one_reading.ensures.faults } in
    let r : RestLaws = record { some = c.one_reading-2.ensures.some; readings = c.one_reading-2.ensures.readings; apart = c.one_reading-2.ensures.apart; faults = c.one_reading-2.ensures.faults } in
    one_failure s r
