use Rattle.std.proofs.Common.{◌≡◌, ℕ, ◌+◌, ◌<◌, ◌≤◌, ◌⊎◌, length}
use Rattle.cfg_numbered.specs.Symbols.{numbers_of}
use Rattle.cfg_sets.specs.Firsts.{AreFirsts}
use Rattle.cfg_sets.specs.Follows.{AreFollowsSoundOf, HoldsAll, HandsOnOrWaits, follow_room}
use Rattle.cfg_sets.specs.WorkLists.{StandsFrom}
use Rattle.cfg_sets.proofs.follows.FillingWorkTable.take.Given as goal

abbrev pub invariant-prods : goal.invariant-prods
invariant-prods g l = record {
  grammar : l.self.grm.now ≡ l.initial.self.grm.now;
  firsts : l.self.firsts.now ≡ l.initial.self.firsts.now;
  exact : AreFirsts l.self.grm.now.grammar l.self.firsts.now;
  sound : AreFollowsSoundOf l.self.grm.now.grammar l.self.follows l.self.row.bits;
  holds : HoldsAll l.self.grm.now.grammar l.self.firsts.now l.self.follows;
  work : l.work.rules ≡ l.self.grm.now.grammar.rules;
  closed : (p : ℕ) → p < length l.self.grm.now.grammar.productions → HandsOnOrWaits l.self.grm.now.grammar l.self.firsts.now l.self.follows l.work.list p ⊎ StandsFrom (numbers_of g.S.IndexStorage.number l.prods) l.index p;
  room : follow_room l.self.follows + length l.work.list ≤ follow_room l.initial.self.follows + length l.initial.work.list;
}
