use Rattle.cfg_read.proofs.WellFormedStart.{start_is_free}
use Rattle.cfg_read.proofs.yacc.laws.any_rule_may_start.Goals as goal

pub returns : goal.returns
returns c = start_is_free
