use Rattle.cfg_read.proofs.WellFormedTrees.{valid_is_well_formed}
use Rattle.cfg_read.proofs.yacc.laws.valid_texts_have_well_formed_trees.Goals as goal

pub returns : goal.returns
returns c = valid_is_well_formed
