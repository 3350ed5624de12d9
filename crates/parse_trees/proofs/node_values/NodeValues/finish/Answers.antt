use Rattle.std.proofs.Common.{Some, sym, ap, ◌∙◌, subst, length, arith}
use Rattle.parse_trees.specs.NodeValues.{HasNode}
use Rattle.parse_trees.specs.Shapes.{shape}
use Rattle.parse_trees.proofs.Folding.{last_alone}
use Rattle.parse_trees.proofs.NodeStacks.{node_alone}
use Rattle.parse_trees.proofs.node_values.NodeValues.finish.Goals as goal

pub returns : goal.returns
returns g c = λ G t h.
    let number = g.S.IndexStorage.number in
    let nodes = c.args.self.nodes in
    let one = node_alone number G nodes.items (shape G t) h in
    let len = ap length one.1 in
    let is = c.pop.ensures.value one.0 (omega (arith, len, nodes.ok.0)) ∙ ap Some (last_alone nodes.items _ one.0 one.0 one.1 (omega (arith, nodes.ok.0))) in
    subst (λ r. HasNode number G r (Some t)) (sym is) one.2
