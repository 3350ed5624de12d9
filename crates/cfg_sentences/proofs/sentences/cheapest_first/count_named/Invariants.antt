use Rattle.std.proofs.Common.{◌≡◌, length}
use Rattle.cfg_sentences.proofs.sentences.cheapest_first.count_named.Given as goal

abbrev pub invariant-prods : goal.invariant-prods
invariant-prods l = length l.lacking.items ≡ length l.initial.lacking.items
