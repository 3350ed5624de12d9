use Rattle.std.proofs.Common.{◌≡◌, ◌∷◌, ℕ, List, length, map, sym, ap, ◌∙◌, arith}
use Rattle.std.proofs.lemmas.List.{length-map}
use Rattle.parse_trees.specs.declared.outline.OutlineNode.{OutlineNode}
use Rattle.parse_trees.specs.FlatTrees.{Piece}
use Rattle.parse_trees.specs.Outlines.{erased, mark_of, marks_of}
use Rattle.parse_trees.proofs.OutlineWalks.{next_fits, stepped}
use Rattle.parse_trees.proofs.outline.OutlineWalk.step.Goals as goal

alike : {S L : Type 0} (number : S → ℕ) (nodes : List (OutlineNode S)) (pieces : List (Piece L)) → marks_of number nodes ≡ map erased pieces → length nodes ≡ length pieces
alike number nodes pieces e = omega (arith, length-map nodes (mark_of number), length-map pieces erased, ap length e)

pub node_at-node-requires : goal.node_at-node-requires
node_at-node-requires g c =
    let rest = c.requires.0 in
    let left = c.requires.1 in
    let s = c.args.self.now in
    let h = (next_fits left.pieces s.waiting.items c.pop.new.self.items c.in-Some.visit s.seen rest left.waits c.in-Some.ensures.items).0 in
    omega (arith, h, alike g.S.IndexStorage.number s.nodes.now left.pieces left.are)

pub push_children-requires-clause-depth : goal.push_children-requires-clause-depth
push_children-requires-clause-depth g c =
    let rest = c.requires.0 in
    let left = c.requires.1 in
    let s = c.args.self.now in
    let h = (next_fits left.pieces s.waiting.items c.pop.new.self.items c.in-Some.visit s.seen rest left.waits c.in-Some.ensures.items).1 in
    omega (arith, h, alike g.S.IndexStorage.number s.nodes.now left.pieces left.are)

pub returns-in_ok-push_children-in-Some : goal.returns-in_ok-push_children-in-Some
returns-in_ok-push_children-in-Some g c = λ rest left.
    let number = g.S.IndexStorage.number in
    let s = c.args.self.now in
    let h = stepped number s.nodes.now s.waiting.items c.pop.new.self.items c.push_children.new.waiting.items c.in-Some.visit c.node_at-node.result s.seen c.seen_behind-self.result rest left
    c.in-Some.ensures.items c.node_at-node.ensures (λ j t st e. c.in_ok-push_children-in-Some.ensures left.pieces j t left.are st e) c.seen_behind-self.ensures in
    (h.0, h.1 ∙ ap (λ x. record { symbol = x; depth = c.in-Some.visit.depth } ∷ h.0) (sym c.symbol_of_node-symbol.ensures), h.2)
