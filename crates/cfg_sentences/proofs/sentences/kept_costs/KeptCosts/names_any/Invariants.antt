use Rattle.cfg_sentences.proofs.NarrowSteps.{NoneBelow}
use Rattle.cfg_sentences.proofs.sentences.kept_costs.KeptCosts.names_any.Given as goal

abbrev pub invariant-symbols : goal.invariant-symbols
invariant-symbols g l = NoneBelow l.self.grammar (g.S.IndexStorage.number l.fn.pidx.0) l.index l.set.bits
