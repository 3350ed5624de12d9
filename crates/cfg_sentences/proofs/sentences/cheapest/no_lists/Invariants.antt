use Rattle.std.proofs.Common.{◌≡◌, [], replicate}
use Rattle.cfg_sentences.proofs.sentences.cheapest.no_lists.Given as goal

abbrev pub invariant-rules : goal.invariant-rules
invariant-rules g l = l.table.items ≡ replicate l.counter []
