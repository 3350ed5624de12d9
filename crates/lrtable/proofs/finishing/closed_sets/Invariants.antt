use Rattle.std.proofs.Common.{map}
use Rattle.lrtable.specs.StateViews.{value_of}
use Rattle.lrtable.specs.Closers.{IsReady}
use Rattle.lrtable.proofs.FinalStates.{ClosesFirst}
use Rattle.lrtable.proofs.finishing.closed_sets.Given as goal

abbrev pub invariant-states : goal.invariant-states
invariant-states g l = IsReady l.grm.grammar l.closer × ClosesFirst l.grm.grammar (map (value_of g.S.IndexStorage.number) l.states) l.number l.sets.items
