use Rattle.std.proofs.Common.{◌≡◌, ℕ, ◌+◌, ◌<◌, ◌≤◌, ◌⊎◌, length}
use Rattle.cfg_sets.specs.Firsts.{AreUnderWay, IsClosedOrWaits, first_room}
use Rattle.cfg_sets.specs.WorkLists.{StandsFrom}
use Rattle.cfg_sets.proofs.firsts.FillingWorkTable.take.Given as goal

abbrev pub invariant-prods : goal.invariant-prods
invariant-prods g l = record {
  grammar : l.self.grm.now ≡ l.initial.self.grm.now;
  naming : l.self.naming.now ≡ l.initial.self.naming.now;
  under_way : AreUnderWay l.initial.self.grm.now.grammar l.self.firsts l.self.row.bits l.self.done.bits l.initial.self.naming.now;
  work : l.work.rules ≡ l.initial.work.rules;
  closed : (p : ℕ) → p < length l.initial.self.grm.now.grammar.productions → IsClosedOrWaits l.initial.self.grm.now.grammar l.self.firsts l.work.list p ⊎ StandsFrom l.named l.index p;
  room : first_room l.self.firsts + length l.work.list ≤ first_room l.initial.self.firsts + length l.initial.work.list;
}
