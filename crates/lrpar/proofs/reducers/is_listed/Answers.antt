use Rattle.std.proofs.Common.{arith}
use Rattle.lrpar.proofs.reducers.is_listed.Goals as goal

pub returns-then-to_usize : goal.returns-then-to_usize
returns-then-to_usize g c = λ _. (c.prods.index, c.prod_of_list.result, c.prod_of_list.ensures, omega arith)
