use Rattle.std.proofs.Common.{ap}
use Rattle.parse_trees.specs.NodeLists.{shapes_on}
use Rattle.parse_trees.proofs.node_values.NodeValues.with_room.Goals as goal

pub returns : goal.returns
returns g c = ap (shapes_on g.S.IndexStorage.number) c.in_ok-nodes.ensures.items
