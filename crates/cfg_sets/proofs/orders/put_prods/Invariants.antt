use Rattle.std.proofs.Common.{◌≡◌}
use Rattle.cfg_sets.proofs.orders.put_prods.Given as goal

abbrev pub invariant-prods : goal.invariant-prods
invariant-prods g l = l.order.rules ≡ l.initial.order.rules
