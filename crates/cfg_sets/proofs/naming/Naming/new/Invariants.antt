use Rattle.cfg_sets.specs.WorkLists.{ListsNaming}
use Rattle.cfg_sets.proofs.naming.Naming.new.Given as goal

abbrev pub invariant-prods : goal.invariant-prods
invariant-prods g l = ListsNaming l.grm.grammar l.number l.naming
