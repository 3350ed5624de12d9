use Rattle.parse_trees.proofs.Spine.{left_of}
use Rattle.parse_trees.proofs.node.dismantle.Given as goal

abbrev pub decreases-turns : goal.decreases-turns
decreases-turns g l = left_of l.nodes.items l.above.items
