use Rattle.std.proofs.Common.{◌≡◌, ℕ, ◌+◌, ◌<◌, ◌≤◌, ◌⊎◌, length}
use Rattle.cfg_numbered.specs.Symbols.{numbers_of}
use Rattle.vob.specs.Sets.{missing}
use Rattle.cfg_sentences.specs.CostTable.{cost_of}
use Rattle.cfg_sentences.specs.CheapestTable.{AreKept, IsHandedOnOrWaits}
use Rattle.cfg_sets.specs.WorkLists.{StandsFrom}
use Rattle.cfg_sentences.proofs.sentences.needed.WantingWorkTable.take.Given as goal

abbrev pub invariant-prods : goal.invariant-prods
invariant-prods g l = record {
  least : l.self.least.now ≡ l.initial.self.least.now;
  width : length l.self.wanted.bits ≡ l.self.least.now.grammar.rules;
  kept : AreKept l.initial.self.wanted.bits l.self.wanted.bits;
  work : l.work.rules ≡ l.self.least.now.grammar.rules;
  closed : (p : ℕ) → p < length l.self.least.now.grammar.productions → IsHandedOnOrWaits l.self.least.now.grammar (cost_of l.self.least.now.costs) l.self.least.now.table l.self.wanted.bits l.work.list p ⊎ StandsFrom (numbers_of g.S.IndexStorage.number l.prods) l.index p;
  room : missing l.self.wanted.bits + length l.work.list ≤ missing l.initial.self.wanted.bits + length l.initial.work.list;
}
