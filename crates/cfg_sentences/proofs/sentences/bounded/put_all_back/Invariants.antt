use Rattle.cfg_sentences.specs.Greatest.{PutsBack}
use Rattle.cfg_sentences.proofs.sentences.bounded.put_all_back.Given as goal

abbrev pub invariant-rules : goal.invariant-rules
invariant-rules l = PutsBack l.group l.index l.set.bits l.initial.rest.bits l.rest.bits
