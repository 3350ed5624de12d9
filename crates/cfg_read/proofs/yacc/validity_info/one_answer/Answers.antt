use Rattle.cfg_read.proofs.OneAnswer.{FileLaws, one_checked, fails_some, told_valid}
use Rattle.cfg_read.proofs.yacc.validity_info.one_answer.Goals as goal

pub returns-clause-answers : goal.returns-clause-answers
returns-clause-answers c =
    let laws : FileLaws = record { readings = c.one_file.ensures.readings; apart = c.one_file.ensures.apart; faults = c.one_file.ensures.faults } in
    one_checked laws

pub returns-clause-unread : goal.returns-clause-unread
returns-clause-unread c = fails_some

pub returns-clause-told : goal.returns-clause-told
returns-clause-told c = told_valid
