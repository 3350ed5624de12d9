use Rattle.cfg_sets.proofs.WorkSteps.{IsOutTo}
use Rattle.cfg_sets.proofs.naming.Naming.take_out.Given as goal

abbrev pub invariant-prods : goal.invariant-prods
invariant-prods l = IsOutTo l.named l.index l.initial.prods.bits l.prods.bits
