use Rattle.std.proofs.Common.{◌≡◌, replicate, None}
use Rattle.cfg_sentences.proofs.sentences.shared_lists.no_numbers.Given as goal

abbrev pub invariant-rules : goal.invariant-rules
invariant-rules l = l.table.items ≡ replicate l.counter None
