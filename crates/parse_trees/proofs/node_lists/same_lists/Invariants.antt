use Rattle.std.proofs.Common.{◌≡◌, map, drop}
use Rattle.parse_trees.specs.NodeLists.{entry_of, same_entries}
use Rattle.parse_trees.proofs.node_lists.same_lists.Given as goal

abbrev pub invariant-entries : goal.invariant-entries
invariant-entries g l =
    same_entries g.L.PartialEq.eq (map (entry_of g.S.IndexStorage.number) l.one) (map (entry_of g.S.IndexStorage.number) l.other) ≡
    same_entries g.L.PartialEq.eq (map (entry_of g.S.IndexStorage.number) (drop l.index l.one)) (map (entry_of g.S.IndexStorage.number) (drop l.index l.other))
