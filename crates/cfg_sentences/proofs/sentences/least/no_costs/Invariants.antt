use Rattle.std.proofs.Common.{◌≡◌, None, replicate}
use Rattle.cfg_sentences.proofs.sentences.least.no_costs.Given as goal

abbrev pub invariant-rules : goal.invariant-rules
invariant-rules l = l.least.items ≡ replicate l.counter None
