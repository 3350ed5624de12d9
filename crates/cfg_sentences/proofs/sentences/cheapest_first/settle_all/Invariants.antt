use Rattle.std.proofs.Common.{◌≡◌, length}
use Rattle.cfg_sentences.specs.CostTable.{AreCapped}
use Rattle.cfg_sentences.proofs.sentences.cheapest_first.settle_all.Given as goal

abbrev pub invariant-turns : goal.invariant-turns
invariant-turns g l = record {
  rules : length l.search.costs.items ≡ l.tokens.grammar.rules;
  capped : AreCapped l.search.costs.items;
  order : l.order.rules ≡ l.initial.order.rules;
}
