use Rattle.std.proofs.Common.{◌∷◌, ◌++◌, [], ◌∙◌, ap}
use Rattle.parse_trees.proofs.NodeLists.{one_joined}
use Rattle.parse_trees.proofs.node_lists.join_one.Goals as goal

pub returns : goal.returns
returns g c = λ ss rest is.
    one_joined g.S.IndexStorage.number c.args.made.now.items c.take_last.new.self.items c.push_reserved-2.new.self.items c.args.ridx c.take_last.result c.push_reserved.new.self ss rest c.take_last.ensures.items
    (c.push_reserved.ensures.items ∙ ap (λ l. l ++ c.take_last.result ∷ []) c.in_ok-nodes.ensures.items)
    c.push_reserved-2.ensures.items is
