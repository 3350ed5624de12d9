use Rattle.parse_trees.specs.NodeLists.{downward}
use Rattle.parse_trees.specs.Shapes.{shape_of}
use Rattle.parse_trees.proofs.NodeLists.{less_waits, next_listed}
use Rattle.parse_trees.proofs.node_lists.entries_of.Goals as goal

pub waiting-preserved : goal.waiting-preserved
waiting-preserved g c =
    next_listed g.S.IndexStorage.number (downward (shape_of g.S.IndexStorage.number c.args.root.now)) c.waiting.found.items c.list_next.new.found.items c.waiting.waiting.items c.pop.new.self.items c.list_next.new.waiting.items c.in-Some.node
    c.in-Some.ensures.items c.waiting.invariant c.in_ok-list_next.ensures.listed

pub waiting-smaller : goal.waiting-smaller
waiting-smaller g c =
    let all = downward (shape_of g.S.IndexStorage.number c.args.root.now) in
    less_waits g.S.IndexStorage.number all c.waiting.found.items c.list_next.new.found.items c.waiting.waiting.items c.list_next.new.waiting.items c.in_ok-list_next.ensures.more c.waiting.invariant
    (next_listed g.S.IndexStorage.number all c.waiting.found.items c.list_next.new.found.items c.waiting.waiting.items c.pop.new.self.items c.list_next.new.waiting.items c.in-Some.node c.in-Some.ensures.items c.waiting.invariant c.in_ok-list_next.ensures.listed)
