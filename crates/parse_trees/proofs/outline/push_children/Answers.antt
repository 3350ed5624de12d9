use Rattle.std.proofs.Common.{arith, ◌≡◌, ℕ, ◌<◌, ◌+◌, ◌-◌, List, Some, length, map, refl, ap, ◌∙◌}
use Rattle.std.specs.Prelude.{slice_get, option_map}
use Rattle.std.proofs.lemmas.List.{length-map}
use Rattle.std.proofs.lemmas.Option.{slice_get-map}
use Rattle.parse_trees.specs.declared.outline.OutlineNode.{OutlineNode}
use Rattle.parse_trees.specs.FlatTrees.{Piece}
use Rattle.parse_trees.specs.Outlines.{erased, mark_of, marks_of, unplaced}
use Rattle.parse_trees.proofs.FlatWalks.{size_is, below_at, root_within, all_left, next_left, less_left, none_left}
use Rattle.parse_trees.proofs.OutlineWalks.{below_piece}
use Rattle.parse_trees.proofs.outline.push_children.Goals as goal

-- a node that was read, as a mark
read : {S : Type 0} (number : S → ℕ) (nodes : List (OutlineNode S)) (i : ℕ) (n : OutlineNode S) → slice_get nodes i ≡ Some n → slice_get (marks_of number nodes) i ≡ Some (mark_of number n)
read number nodes i n e = slice_get-map (mark_of number) nodes i ∙ ap (option_map (mark_of number)) e

-- as many nodes as pieces
alike : {S L : Type 0} (number : S → ℕ) (nodes : List (OutlineNode S)) (pieces : List (Piece L)) → marks_of number nodes ≡ map erased pieces → length nodes ≡ length pieces
alike number nodes pieces e = omega (arith, length-map nodes (mark_of number), length-map pieces erased, ap length e)

pub node_at-requires : goal.node_at-requires
node_at-requires g c =
    let r = c.requires.stands in
    let h = root_within unplaced r.0 r.1 c.args.at.index r.2 r.4 r.5 in
    omega (arith, h, alike g.S.IndexStorage.number c.args.nodes.now r.0 r.3)

pub overflow_sub-stop : goal.overflow_sub-stop
overflow_sub-stop g c =
    let number = g.S.IndexStorage.number in
    let r = c.requires.stands in
    let told = below_piece (marks_of number c.args.nodes.now) r.0 c.args.at.index c.below_of.result (mark_of number c.node_at.result) r.3 (read number c.args.nodes.now c.args.at.index c.node_at.result c.node_at.ensures) c.below_of.ensures in
    let h = below_at unplaced r.0 r.1 c.args.at.index c.below_of.result r.2 r.4 r.5 told in
    let e = r.5 in
    omega (arith, h, size_is r.2, e)

pub children-init : goal.children-init
children-init g c = λ pieces k t are s e.
    let number = g.S.IndexStorage.number in
    let told = below_piece (marks_of number c.args.nodes.now) pieces c.args.at.index c.below_of.result (mark_of number c.node_at.result) are (read number c.args.nodes.now c.args.at.index c.node_at.result c.node_at.ensures) c.below_of.ensures in
    let h = below_at unplaced pieces k c.args.at.index c.below_of.result t s e told in
    (omega (arith, h, size_is t, e), all_left unplaced pieces k (c.args.at.depth + 1) c.args.at.index t c.args.waiting.now.items s e)

pub node_at-requires-in-children : goal.node_at-requires-in-children
node_at-requires-in-children g c =
    let r = c.requires.stands in
    let l = c.children.invariant r.0 r.1 r.2 r.3 r.4 r.5 in
    let n = next_left unplaced r.0 r.1 (c.args.at.depth + 1) c.children.end r.2 _ _ l.1 (omega (arith, l.0, c.children-test.true)) in
    let e = n.3 in
    let h = root_within unplaced r.0 n.0 (c.children.end - 1) n.1 n.2 (omega (arith, e, size_is n.1)) in
    omega (arith, h, alike g.S.IndexStorage.number c.args.nodes.now r.0 r.3)

pub overflow_sub-end : goal.overflow_sub-end
overflow_sub-end g c =
    let number = g.S.IndexStorage.number in
    let r = c.requires.stands in
    let l = c.children.invariant r.0 r.1 r.2 r.3 r.4 r.5 in
    let n = next_left unplaced r.0 r.1 (c.args.at.depth + 1) c.children.end r.2 _ _ l.1 (omega (arith, l.0, c.children-test.true)) in
    let e = n.3 in
    let s = size_is n.1 in
    let told = below_piece (marks_of number c.args.nodes.now) r.0 (c.children.end - 1) c.below_of-in-children.result (mark_of number c.node_at-in-children.result) r.3 (read number c.args.nodes.now (c.children.end - 1) c.node_at-in-children.result c.node_at-in-children.ensures) c.below_of-in-children.ensures in
    let h = below_at unplaced r.0 n.0 (c.children.end - 1) c.below_of-in-children.result n.1 n.2 (omega (arith, e, s)) told in
    omega (arith, h, s, e)

pub children-preserved : goal.children-preserved
children-preserved g c = λ pieces k t are s e.
    let number = g.S.IndexStorage.number in
    let l = c.children.invariant pieces k t are s e in
    let some : k < c.children.end = omega (arith, l.0, c.children-test.true) in
    let told = below_piece (marks_of number c.args.nodes.now) pieces (c.children.end - 1) c.below_of-in-children.result (mark_of number c.node_at-in-children.result) are (read number c.args.nodes.now (c.children.end - 1) c.node_at-in-children.result c.node_at-in-children.ensures) c.below_of-in-children.ensures in
    (l.0, less_left unplaced pieces k (c.args.at.depth + 1) c.children.end (c.children.end - 1 - c.below_of-in-children.result) c.below_of-in-children.result t c.args.waiting.now.items c.children.waiting.items c.push.new.self.items l.1 some told refl c.in_ok-push.ensures.items)

pub returns : goal.returns
returns g c = λ pieces k t are s e.
    let l = c.children.invariant pieces k t are s e in
    none_left unplaced pieces k (c.args.at.depth + 1) c.children.end t c.args.waiting.now.items c.children.waiting.items l.1 (omega (arith, l.0, c.children-test.false))
