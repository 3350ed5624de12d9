use Rattle.cfg_read.proofs.Settled.{all_of_text}
use Rattle.cfg_read.proofs.yacc.ast.settle.all_settled.Goals as goal

pub returns : goal.returns
returns c = all_of_text
