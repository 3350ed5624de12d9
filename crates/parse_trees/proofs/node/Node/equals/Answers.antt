use Rattle.std.proofs.Common.{◌∙◌, ap, map}
use Rattle.parse_trees.specs.NodeLists.{entry_of, downward, same_entries}
use Rattle.parse_trees.specs.Shapes.{shape_of}
use Rattle.parse_trees.proofs.NodeLists.{whole_same}
use Rattle.parse_trees.proofs.node.Node.equals.Goals as goal

pub returns : goal.returns
returns g c =
    let eq = g.L.PartialEq.eq in
    let f = entry_of g.S.IndexStorage.number in
    let s = shape_of g.S.IndexStorage.number c.args.self.now in
    c.same_lists.ensures ∙ ap (λ l. same_entries eq (map f l) (map f c.as_slice-2.result.now)) c.as_slice.ensures.value ∙ ap (λ l. same_entries eq l (map f c.as_slice-2.result.now)) c.in_ok-one.ensures ∙
    ap (λ l. same_entries eq (downward s) (map f l)) c.as_slice-2.ensures.value ∙ ap (same_entries eq (downward s)) c.in_ok-two.ensures ∙ whole_same eq s (shape_of g.S.IndexStorage.number c.args.other.now)
