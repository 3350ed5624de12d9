use Rattle.std.proofs.Common.{◌≡◌, ◌++◌, reverse, take}
use Rattle.parse_trees.specs.NodeLists.{waiting_entries, all_downward}
use Rattle.parse_trees.specs.Shapes.{shapes_of}
use Rattle.parse_trees.proofs.node_lists.put_all.Given as goal

abbrev pub invariant-nodes : goal.invariant-nodes
invariant-nodes g l =
    waiting_entries g.S.IndexStorage.number (reverse l.waiting.items) ≡ all_downward (shapes_of g.S.IndexStorage.number (take l.index l.nodes)) ++ waiting_entries g.S.IndexStorage.number (reverse l.initial.waiting.items)
