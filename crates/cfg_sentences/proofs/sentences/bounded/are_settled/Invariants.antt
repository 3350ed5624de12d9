use Rattle.cfg_sentences.specs.CostTable.{cost_of}
use Rattle.cfg_sentences.specs.Greatest.{AreSettled}
use Rattle.cfg_sentences.proofs.sentences.bounded.are_settled.Given as goal

abbrev pub invariant-rules : goal.invariant-rules
invariant-rules g l = AreSettled l.costly.grammar (cost_of l.costly.costs) l.costly.table l.set.bits l.rest.bits l.group l.index
