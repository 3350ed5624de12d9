use Rattle.std.specs.Prelude.{map, take}
use Rattle.lrtable.specs.Pruning.{Marks, IsTargetOf}
use Rattle.lrtable.specs.StateViews.{edge_of_pair}
use Rattle.lrtable.proofs.pruning.mark_targets.Given as goal

abbrev pub invariant-edges : goal.invariant-edges
invariant-edges g l = Marks (IsTargetOf (map (edge_of_pair g.S.IndexStorage.number) (take l.edge-index l.edges))) l.initial.marked.bits l.marked.bits l.initial.waiting.items l.waiting.items
