use Rattle.std.proofs.Common.{◌-◌, length, drop}
use Rattle.cfg_theory.specs.Grammar.{body_of}
use Rattle.cfg_theory.specs.First.{AllOf}
use Rattle.cfg_sets.specs.Firsts.{HasEpsilon}
use Rattle.cfg_sets.specs.Follows.{AreFollowsSoundOf, FollowsGoOn}
use Rattle.cfg_sets.proofs.FollowFills.{HandedFrom}
use Rattle.cfg_sets.proofs.follows.YaccFollows.hand_on.Given as goal

abbrev pub invariant-back : goal.invariant-back
invariant-back g l = record {
  sound : AreFollowsSoundOf l.grm.grammar l.self l.row.bits;
  passed : AllOf (HasEpsilon l.firsts) (drop (length l.symbols - l.index) (body_of l.grm.grammar (g.S.IndexStorage.number l.fn.pidx.0)));
  handed : HandedFrom l.grm.grammar (g.S.IndexStorage.number l.fn.pidx.0) (length l.symbols - l.index) l.self;
  went : FollowsGoOn l.grm.grammar l.firsts l.initial.self l.self l.initial.work l.work;
}
