use Rattle.cfg_numbered.proofs.RuleLists.{listed, alone, ascending}
use Rattle.cfg_numbered.proofs.yacc.grammar.laws.productions_stand_in_one_list.Goals as goal

pub returns-clause-listed : goal.returns-clause-listed
returns-clause-listed c = listed

pub returns-clause-alone : goal.returns-clause-alone
returns-clause-alone c = alone

pub returns-clause-once : goal.returns-clause-once
returns-clause-once c = ascending
