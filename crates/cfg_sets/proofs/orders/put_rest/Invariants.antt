use Rattle.std.proofs.Common.{◌≡◌, ℕ, ◌<◌}
use Rattle.std.specs.List.{Contains}
use Rattle.cfg_sets.proofs.orders.put_rest.Given as goal

abbrev pub invariant-prods : goal.invariant-prods
invariant-prods l = record {
  rules : l.order.rules ≡ l.initial.order.rules;
  all : (p : ℕ) → p < l.number → Contains l.order.list p;
}
