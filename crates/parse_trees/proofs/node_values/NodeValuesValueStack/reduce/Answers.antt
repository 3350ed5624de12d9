use Rattle.std.proofs.Common.{sym, ap, ◌∙◌, arith}
use Rattle.parse_trees.specs.NodeLists.{grab, shapes_on}
use Rattle.parse_trees.specs.Shapes.{nothing}
use Rattle.parse_trees.proofs.NodeStacks.{nodes_enough, stand_reduced}
use Rattle.parse_trees.proofs.node_values.NodeValuesValueStack.reduce.Goals as goal

pub join_one-requires : goal.join_one-requires
join_one-requires g c =
    let h = c.requires.stands in
    let enough = nodes_enough g.S.IndexStorage.number h.0 c.args.self.now.nodes.items h.1 c.args.count h.2 h.3 in
    omega (arith, enough, c.if-count-eq1.true)

pub returns-then-count-eq1-clause-stands : goal.returns-then-count-eq1-clause-stands
returns-then-count-eq1-clause-stands g c = λ G ts below f is h popped.
    let number = g.S.IndexStorage.number in
    let nodes = c.args.self.now.nodes.items in
    stand_reduced number G nodes c.join_one.new.made.items ts below f (number c.args.pidx.0) (number c.args.ridx.0) c.args.count is h popped
    (λ ss rest e. c.in_ok-join_one.ensures ss rest (ap (λ k. grab (shapes_on number nodes) k nothing) (sym c.if-count-eq1.true) ∙ e))

pub join_last-requires : goal.join_last-requires
join_last-requires g c =
    let h = c.requires.stands in
    nodes_enough g.S.IndexStorage.number h.0 c.args.self.now.nodes.items h.1 c.args.count h.2 h.3

pub returns-clause-stands : goal.returns-clause-stands
returns-clause-stands g c = λ G ts below f is h popped.
    stand_reduced g.S.IndexStorage.number G c.args.self.now.nodes.items c.join_last.new.made.items ts below f (g.S.IndexStorage.number c.args.pidx.0) (g.S.IndexStorage.number c.args.ridx.0) c.args.count is h popped c.in_ok-join_last.ensures
