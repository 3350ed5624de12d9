use Rattle.std.specs.Prelude.{map, take}
use Rattle.lrtable.specs.Pruning.{Flagged, IsTargetOf}
use Rattle.lrtable.specs.StateViews.{edge_of_pair}
use Rattle.lrtable.proofs.pruning.flag_targets.Given as goal

abbrev pub invariant-edges : goal.invariant-edges
invariant-edges g l = Flagged (IsTargetOf (map (edge_of_pair g.S.IndexStorage.number) (take l.edge-index l.edges))) l.initial.flags.items l.flags.items
