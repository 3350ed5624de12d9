use Rattle.std.proofs.Common.{◌≡◌, ◌∷◌, ◌++◌, [], length, ap, ◌∙◌, arith}
use Rattle.std.proofs.lemmas.List.{length-map, map-append}
use Rattle.parse_trees.specs.Outlines.{leaf_mark, mark_of, marks_of}
use Rattle.parse_trees.proofs.Outlines.{shifted}
use Rattle.parse_trees.proofs.outline.OutlineValuesValueStack.shift.Goals as goal

pub returns-clause-stands : goal.returns-clause-stands
returns-clause-stands g c = λ G ts h.
    let number = g.S.IndexStorage.number in
    let s = c.args.self.now in
    let nodes = c.push.new.self in
    let put : marks_of number nodes.items ≡ marks_of number s.nodes.items ++ leaf_mark ∷ [] =
    ap (marks_of number) c.in_ok-push.ensures.items ∙ map-append (mark_of number) s.nodes.items _ ∙ ap (λ m. marks_of number s.nodes.items ++ m ∷ []) c.leaf_node.ensures in
    let long = length-map nodes.items (mark_of number) in
    let count : c.len.result ≡ length (marks_of number nodes.items) = omega (arith, c.len.ensures, nodes.ok.0, long) in
    shifted ts (marks_of number s.nodes.items) (marks_of number nodes.items) s.ends.items c.push-2.new.self.items s.large c.args.lexeme h put (c.in_ok-push-2.ensures.items ∙ ap (λ n. s.ends.items ++ n ∷ []) count)
