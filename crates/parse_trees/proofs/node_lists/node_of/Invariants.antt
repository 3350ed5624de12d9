use Rattle.std.proofs.Common.{◌≡◌, ◌-◌, ◌∷◌, [], Some, map, reverse, take}
use Rattle.parse_trees.specs.NodeLists.{entry_of, downward, shapes_on}
use Rattle.parse_trees.specs.Shapes.{Shape}
use Rattle.parse_trees.proofs.NodeLists.{rebuild}
use Rattle.parse_trees.proofs.node_lists.node_of.Given as goal

abbrev pub invariant-entries : goal.invariant-entries
invariant-entries g l =
    (s : Shape g.row.L.Denot) → map (entry_of g.S.IndexStorage.number) l.entries ≡ downward s → rebuild (reverse (map (entry_of g.S.IndexStorage.number) (take (l.count - l.number) l.entries))) (shapes_on g.S.IndexStorage.number l.made.items) ≡ Some (s ∷ [])
