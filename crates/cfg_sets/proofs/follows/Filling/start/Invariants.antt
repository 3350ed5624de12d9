use Rattle.std.proofs.Common.{◌≡◌, ℕ, ◌<◌, ◌⊎◌, length}
use Rattle.std.specs.List.{Contains}
use Rattle.cfg_theory.specs.Grammar.{IsEnd}
use Rattle.cfg_sets.specs.Follows.{AreFollowsSoundOf, HasFollow, HoldsFirsts}
use Rattle.cfg_sets.proofs.follows.Filling.start.Given as goal

abbrev pub invariant-prods : goal.invariant-prods
invariant-prods g l = record {
  grammar : l.self.grm.now ≡ l.initial.self.grm.now;
  firsts : l.self.firsts.now ≡ l.initial.self.firsts.now;
  sound : AreFollowsSoundOf l.self.grm.now.grammar l.self.follows l.self.row.bits;
  end : (t : ℕ) → IsEnd l.self.grm.now.grammar t → HasFollow l.self.follows 0 t;
  within : (p : ℕ) → Contains l.order p → p < length l.self.grm.now.grammar.productions;
  holds : (p : ℕ) → p < length l.self.grm.now.grammar.productions → HoldsFirsts l.self.grm.now.grammar l.self.firsts.now l.self.follows p ⊎ Contains l.order p;
}

abbrev pub decreases-prods : goal.decreases-prods
decreases-prods g l = length l.order
