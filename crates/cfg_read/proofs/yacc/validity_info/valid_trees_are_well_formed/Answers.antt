use Rattle.cfg_read.proofs.WellMade.{checked_well, changed_well}
use Rattle.cfg_read.proofs.yacc.validity_info.valid_trees_are_well_formed.Goals as goal

pub returns-clause-kept : goal.returns-clause-kept
returns-clause-kept c = checked_well

pub returns-clause-changed : goal.returns-clause-changed
returns-clause-changed c = changed_well
