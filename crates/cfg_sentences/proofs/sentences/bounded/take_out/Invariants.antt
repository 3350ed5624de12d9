use Rattle.cfg_sentences.specs.Greatest.{TakesOut}
use Rattle.cfg_sentences.proofs.sentences.bounded.take_out.Given as goal

abbrev pub invariant-rules : goal.invariant-rules
invariant-rules l = TakesOut l.group l.index l.initial.set.bits l.set.bits
