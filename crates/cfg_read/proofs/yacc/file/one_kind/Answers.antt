use Rattle.cfg_read.proofs.WholeFiles.{SectionLaws, kind_outcome, one_told, told_apart, one_lack}
use Rattle.cfg_read.proofs.yacc.file.one_kind.Goals as goal

pub returns-clause-some : goal.returns-clause-some
returns-clause-some c =
    let s : SectionLaws = record { some = c.each_is_answered.ensures; readings = c.one_reading.ensures.readings; apart = c.one_reading.ensures.apart; faults = c.one_reading.ensures.faults } in
    kind_outcome s

pub returns-clause-kinds : goal.returns-clause-kinds
returns-clause-kinds c =
    let s : SectionLaws = record { some = c.each_is_answered.ensures; readings = c.one_reading.ensures.readings; apart = c.one_reading.ensures.apart; faults = c.one_reading.ensures.faults } in
    one_told s

pub returns-clause-apart : goal.returns-clause-apart
returns-clause-apart c =
    let s : SectionLaws = record { some = c.each_is_answered.ensures; readings = c.one_reading.ensures.readings; apart = c.one_reading.ensures.apart; faults = c.one_reading.ensures.faults } in
    told_apart s

pub returns-clause-faults : goal.returns-clause-faults
returns-clause-faults c =
    let s : SectionLaws = record { some = c.each_is_answered.ensures; readings = c.one_reading.ensures.readings; apart = c.one_reading.ensures.apart; faults = c.one_reading.ensures.faults } in
    one_lack s
