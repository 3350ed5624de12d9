use Rattle.std.proofs.Common.{◌≡◌, ◌++◌, map, take, drop}
use Rattle.lrtable.specs.Pruning.{renumbered}
use Rattle.lrtable.specs.StateViews.{edges_of}
use Rattle.lrtable.proofs.pruning.renumber.Given as goal

abbrev pub invariant-each : goal.invariant-each
invariant-each g l =
    let first = edges_of g.S.IndexStorage.number l.initial.edges.items in
    edges_of g.S.IndexStorage.number l.edges.items ≡ map (renumbered l.numbers) (take l.i first) ++ drop l.i first
