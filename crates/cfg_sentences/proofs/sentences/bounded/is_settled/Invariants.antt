use Rattle.cfg_sentences.specs.CostTable.{cost_of}
use Rattle.cfg_sentences.proofs.SettleSteps.{OutBelow}
use Rattle.cfg_sentences.proofs.sentences.bounded.is_settled.Given as goal

abbrev pub invariant-prods : goal.invariant-prods
invariant-prods g l = OutBelow l.costly.grammar (cost_of l.costly.costs) l.costly.table l.set.bits l.rest.bits (g.S.IndexStorage.number l.fn.ridx.0) l.index
