use Rattle.std.proofs.Common.{◌≡◌, ◌-◌, ◌++◌}
use Rattle.cfg_sets.specs.Orders.{stops_below}
use Rattle.cfg_sets.proofs.orders.push_rules.Given as goal

abbrev pub invariant-rules : goal.invariant-rules
invariant-rules l = l.stack.items ++ stops_below (l.rules - l.number) ≡ l.initial.stack.items ++ stops_below l.rules
