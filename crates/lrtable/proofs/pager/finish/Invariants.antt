use Rattle.lrtable.specs.Builders.{AreClear, IsUnderWay, states_in}
use Rattle.lrtable.specs.Handling.{left_in}
use Rattle.lrtable.proofs.pager.finish.Given as goal

abbrev pub invariant-steps : goal.invariant-steps
invariant-steps g l = record {
  buffers : AreClear l.grm.grammar l.buffers;
  builder : IsUnderWay g.S.IndexStorage.number g.S.IndexStorage.MAX l.grm.grammar l.builder;
}

abbrev pub decreases-steps : goal.decreases-steps
decreases-steps g l = left_in l.grm.grammar g.S.IndexStorage.MAX (states_in g.S.IndexStorage.number l.builder)
