use Rattle.std.proofs.Common.{arith, ◌-◌, ◌∷◌, ◌++◌, [], ◌∙◌, ap}
use Rattle.parse_trees.specs.declared.node.Node.TheVariants.{Nonterm}
use Rattle.parse_trees.proofs.NodeLists.{last_joined}
use Rattle.parse_trees.proofs.node_lists.join_last.Goals as goal

pub returns : goal.returns
returns g c = λ ss rest is.
    last_joined g.S.IndexStorage.number c.args.made.now.items c.push.new.self.items c.args.ridx c.in_ok-nodes.nodes (c.len.result - c.args.count) c.args.count ss rest (omega (arith, c.len.ensures, c.requires)) c.in_ok-nodes.ensures.tail
    (c.in_ok-push.ensures.items ∙ ap (λ l. l ++ Nonterm c.args.ridx c.in_ok-nodes.nodes ∷ []) c.in_ok-nodes.ensures.items) is
