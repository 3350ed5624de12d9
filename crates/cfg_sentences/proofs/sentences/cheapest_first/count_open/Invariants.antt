use Rattle.std.proofs.Common.{◌≡◌, length}
use Rattle.cfg_sentences.proofs.sentences.cheapest_first.count_open.Given as goal

abbrev pub invariant-rules : goal.invariant-rules
invariant-rules l = length l.lacking.items ≡ l.prods
