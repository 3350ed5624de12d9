use Rattle.std.proofs.Common.{◌≡◌, ℕ, ◌+◌, ◌<◌, ◌≤◌, ◌⊎◌, length}
use Rattle.std.specs.Prelude.{IsTrue}
use Rattle.cfg_numbered.specs.Symbols.{numbers_of}
use Rattle.vob.specs.Sets.{is_set, missing}
use Rattle.cfg_sets.specs.Paths.{AreReached, AreFrom, ReachedOrWaits}
use Rattle.cfg_sets.specs.WorkLists.{StandsFrom}
use Rattle.cfg_sets.proofs.paths.ReachingWorkTable.take.Given as goal

abbrev pub invariant-prods : goal.invariant-prods
invariant-prods g l = record {
  grammar : l.self.grm.now ≡ l.initial.self.grm.now;
  start : g.S.IndexStorage.number l.self.from.0 ≡ g.S.IndexStorage.number l.initial.self.from.0;
  width : length l.self.reached.bits ≡ l.self.grm.now.grammar.rules;
  sound : AreReached l.self.grm.now.grammar (g.S.IndexStorage.number l.self.from.0) l.self.reached.bits;
  work : l.work.rules ≡ l.self.grm.now.grammar.rules;
  kept : (B : ℕ) → IsTrue (is_set l.initial.self.reached.bits B) → IsTrue (is_set l.self.reached.bits B);
  from : AreFrom (g.S.IndexStorage.number l.self.from.0) l.self.reached.bits l.work.list;
  closed : (p : ℕ) → p < length l.self.grm.now.grammar.productions → ReachedOrWaits l.self.grm.now.grammar (g.S.IndexStorage.number l.self.from.0) l.self.reached.bits l.work.list p ⊎ StandsFrom (numbers_of g.S.IndexStorage.number l.prods) l.index p;
  room : missing l.self.reached.bits + length l.work.list ≤ missing l.initial.self.reached.bits + length l.initial.work.list;
}
