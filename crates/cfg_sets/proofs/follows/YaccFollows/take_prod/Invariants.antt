use Rattle.std.proofs.Common.{◌≡◌, ℕ, ◌-◌, ◌↔◌, length, drop}
use Rattle.std.specs.Prelude.{IsTrue}
use Rattle.cfg_theory.specs.Grammar.{head_of, body_of}
use Rattle.vob.specs.Sets.{is_set}
use Rattle.cfg_sets.specs.Follows.{AreFollowsOf, AreFollowsSound, HasFollow, Behind}
use Rattle.cfg_sets.proofs.FollowFills.{HoldsFrom}
use Rattle.cfg_sets.proofs.follows.YaccFollows.take_prod.Given as goal

abbrev pub invariant-back : goal.invariant-back
invariant-back g l = record {
  sizes : AreFollowsOf l.grm.grammar l.self;
  width : length l.behind.bits ≡ l.grm.grammar.tokens;
  sound : AreFollowsSound l.grm.grammar l.self;
  kept : (A t : ℕ) → HasFollow l.initial.self A t → HasFollow l.self A t;
  bits : (t : ℕ) → IsTrue (is_set l.behind.bits t) ↔
      Behind l.firsts (HasFollow l.initial.self (head_of l.grm.grammar (g.S.IndexStorage.number l.fn.pidx.0))) (drop (length l.symbols - l.index) (body_of l.grm.grammar (g.S.IndexStorage.number l.fn.pidx.0))) t;
  holds : HoldsFrom l.grm.grammar l.firsts (g.S.IndexStorage.number l.fn.pidx.0) (length l.symbols - l.index) l.initial.self l.self;
}
