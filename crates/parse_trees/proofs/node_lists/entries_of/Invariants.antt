use Rattle.std.proofs.Common.{◌≡◌, ◌++◌, map, reverse, length}
use Rattle.parse_trees.specs.NodeLists.{entry_of, downward, waiting_entries}
use Rattle.parse_trees.specs.Shapes.{shape_of}
use Rattle.parse_trees.proofs.node_lists.entries_of.Given as goal

abbrev pub invariant-waiting : goal.invariant-waiting
invariant-waiting g l =
    map (entry_of g.S.IndexStorage.number) l.found.items ++ waiting_entries g.S.IndexStorage.number (reverse l.waiting.items) ≡ downward (shape_of g.S.IndexStorage.number l.fn.root)

abbrev pub decreases-waiting : goal.decreases-waiting
decreases-waiting g l = length (waiting_entries g.S.IndexStorage.number (reverse l.waiting.items))
