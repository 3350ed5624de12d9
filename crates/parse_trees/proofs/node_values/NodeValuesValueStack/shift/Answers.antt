use Rattle.parse_trees.proofs.NodeStacks.{stand_shifted}
use Rattle.parse_trees.proofs.node_values.NodeValuesValueStack.shift.Goals as goal

pub returns-clause-stands : goal.returns-clause-stands
returns-clause-stands g c = λ G ts h.
    stand_shifted g.S.IndexStorage.number G c.args.self.now.nodes.items c.push.new.self.items ts c.args.lexeme h c.in_ok-push.ensures.items
