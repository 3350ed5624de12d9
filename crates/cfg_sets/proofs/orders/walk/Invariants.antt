use Rattle.std.proofs.Common.{◌≡◌, length}
use Rattle.cfg_sets.proofs.orders.walk.Given as goal

abbrev pub invariant-turns : goal.invariant-turns
invariant-turns g l = record {
  seen : length l.seen.bits ≡ l.grm.grammar.rules;
  order : l.order.rules ≡ l.initial.order.rules;
}
