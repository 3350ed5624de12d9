use Rattle.std.proofs.Common.{◌≡◌, length}
use Rattle.cfg_sentences.specs.CostTable.{cost_of}
use Rattle.cfg_sentences.specs.CheapestTable.{Wants}
use Rattle.cfg_sets.proofs.PathSteps.{NamedBelow}
use Rattle.cfg_sentences.proofs.sentences.needed.want_named.Given as goal

abbrev pub invariant-symbols : goal.invariant-symbols
invariant-symbols g l = record {
  width : length l.wanted.bits ≡ l.least.grammar.rules;
  wants : Wants l.least.grammar (cost_of l.least.costs) l.least.table l.initial.wanted.bits l.wanted.bits l.initial.work l.work;
  named : NamedBelow l.least.grammar (g.S.IndexStorage.number l.fn.pidx.0) l.index l.wanted.bits;
}
