use Rattle.std.proofs.Common.{◌≡◌, length}
use Rattle.cfg_sets.specs.Paths.{AreReached, ReachGoesOn}
use Rattle.cfg_sets.proofs.PathSteps.{NamedBelow}
use Rattle.cfg_sets.proofs.paths.reach_named.Given as goal

abbrev pub invariant-symbols : goal.invariant-symbols
invariant-symbols g l = record {
  width : length l.reached.bits ≡ l.grm.grammar.rules;
  sound : AreReached l.grm.grammar (g.S.IndexStorage.number l.fn.from.0) l.reached.bits;
  went : ReachGoesOn l.grm.grammar (g.S.IndexStorage.number l.fn.from.0) l.initial.reached.bits l.reached.bits l.initial.work l.work;
  named : NamedBelow l.grm.grammar (g.S.IndexStorage.number l.fn.pidx.0) l.index l.reached.bits;
}
