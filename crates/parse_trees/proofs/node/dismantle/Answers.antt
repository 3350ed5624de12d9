use Rattle.parse_trees.proofs.Spine.{pop-less, hang-less, rise-less, end-less}
use Rattle.parse_trees.proofs.node.dismantle.Goals as goal

pub turns-smaller-then-is_empty-2 : goal.turns-smaller-then-is_empty-2
turns-smaller-then-is_empty-2 g c = pop-less c.pop.new.self.items c.turns.nodes.items c.turns.above.items c.in-Some.node c.in-Some.ensures.items

pub turns-smaller-else-is_empty-2 : goal.turns-smaller-else-is_empty-2
turns-smaller-else-is_empty-2 g c =
    hang-less c.pop.new.self.items c.turns.nodes.items c.push_reserved.new.self.items c.in-Some.node c.in-Some-into_nodes.ridx c.in-Some-into_nodes.ridx c.in-Some-into_nodes.below c.turns.above c.in-Some-into_nodes.ensures.below c.in-Some.ensures.items c.push_reserved.ensures.items

pub turns-smaller-in_default : goal.turns-smaller-in_default
turns-smaller-in_default g c = pop-less c.pop.new.self.items c.turns.nodes.items c.turns.above.items c.in-Some.node c.in-Some.ensures.items

pub turns-smaller-in-Some-into_nodes-2 : goal.turns-smaller-in-Some-into_nodes-2
turns-smaller-in-Some-into_nodes-2 g c =
    rise-less c.turns.nodes.items c.pop-in-None.new.self.items c.turns.above.items c.in-Some-pop.link c.in-Some-into_nodes-2._ridx c.in-Some-into_nodes-2.higher c.in-Some-into_nodes-2.ensures.below c.in-Some-pop.ensures.items

pub turns-smaller : goal.turns-smaller
turns-smaller g c =
    end-less c.turns.nodes.items c.pop-in-None.new.self.items c.turns.above.items c.new-above-in-None-into_nodes.result.items c.in-Some-pop.link c.in-Some-pop.ensures.items c.new-above-in-None-into_nodes.ensures.items
