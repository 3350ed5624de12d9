use Rattle.lrpar.proofs.NodesLeft.{node_where}
use Rattle.lrpar.proofs.parse_generictree.node_left.Goals as goal

pub returns-then-accepted : goal.returns-then-accepted
returns-then-accepted g c = λ G tree h. node_where g.S.IndexStorage.number G c.args.values.nodes.items c.finish.result c.args.accepted c.if-accepted.true (c.finish.ensures G) tree h
