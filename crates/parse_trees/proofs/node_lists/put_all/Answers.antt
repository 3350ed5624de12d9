use Rattle.std.proofs.Common.{refl, arith}
use Rattle.parse_trees.proofs.NodeLists.{one_waits}
use Rattle.parse_trees.proofs.node_lists.put_all.Goals as goal

pub nodes-preserved : goal.nodes-preserved
nodes-preserved g c =
    one_waits g.S.IndexStorage.number c.args.nodes.now c.nodes.index c.index-nodes-index.result (record { ref_ptr = _; now = c.index-nodes-index.result }) c.args.waiting.now.items c.nodes.waiting.items c.push.new.self.items
    (omega arith) c.index-nodes-index.is refl c.in_ok-push.ensures.items c.nodes.invariant
