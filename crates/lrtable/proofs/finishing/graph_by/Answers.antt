use Rattle.std.proofs.Common.{arith}
use Rattle.std.proofs.lemmas.List.{length-map}
use Rattle.lrtable.specs.StateViews.{value_of}
use Rattle.lrtable.proofs.finishing.graph_by.Goals as goal

pub from_states-requires-clause-ready : goal.from_states-requires-clause-ready
from_states-requires-clause-ready g c =
    let number = g.S.IndexStorage.number in
    let states = c.in_ok-states.states.items in
    let n = length-map states (value_of number) in
    let some = c.in_ok-states.ensures.some in
    record {
      graph = c.in_ok-states.ensures.graph;
      linked = c.in_ok-states.ensures.linked;
      cores = λ s lt. c.in_ok-states.ensures.cores s (omega (arith, lt, n));
      some = omega (arith, n, some);
    }
