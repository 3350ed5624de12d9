use Rattle.std.proofs.Common.{◌≡◌, ◌-◌, ◌+◌, ◌∷◌, ◌++◌, [], length, take, ap, ◌∙◌, arith}
use Rattle.std.proofs.lemmas.List.{length-map, map-append}
use Rattle.cfg_theory.specs.Tree.{none}
use Rattle.parse_trees.specs.FlatTrees.{flat_stack}
use Rattle.parse_trees.specs.Outlines.{mark_by, mark_of, marks_of, unplaced}
use Rattle.parse_trees.proofs.FlatSpans.{can_pop}
use Rattle.parse_trees.proofs.FlatStacks.{height, start_at, none_below, split_length}
use Rattle.parse_trees.proofs.Outlines.{put_reduced}
use Rattle.parse_trees.proofs.outline.OutlineValuesValueStack.reduce.Goals.{then-left-eq0, else-left-eq0}
use Rattle.parse_trees.proofs.outline.OutlineValuesValueStack.reduce.Goals as goal

pub overflow_sub-left : goal.overflow_sub-left
overflow_sub-left g c =
    let s = c.args.self.now in
    let r = c.requires.stands in
    let p = can_pop c.args.count r.1 none r.3 in
    omega (arith, c.len.ensures, s.ends.ok.0, height unplaced r.1 r.2.pieces s.ends.items c.args.count p.1 p.0 r.2.flat p.2)

pub overflow_sub-len : goal.overflow_sub-len
overflow_sub-len g c =
    let s = c.args.self.now in
    let r = c.requires.stands in
    let p = can_pop c.args.count r.1 none r.3 in
    let high = height unplaced r.1 r.2.pieces s.ends.items c.args.count p.1 p.0 r.2.flat p.2 in
    let start : c.if-left-eq0.start ≡ length (flat_stack unplaced p.0) =
    elim c.if-left-eq0.branch [
      | then-left-eq0 w ↦ omega (arith, w.start-is, none_below unplaced r.1 r.2.pieces s.ends.items c.args.count p.1 p.0 r.2.flat p.2 (omega (arith, c.len.ensures, s.ends.ok.0, high, w.if-left-eq0.true)))
      | else-left-eq0 w ↦ w.start-is ∙ w.index.ensures ∙ start_at unplaced r.1 r.2.pieces s.ends.items c.args.count p.1 p.0 r.2.flat p.2 (c.len.result - c.args.count - 1) _ (grind (arith, c.len.ensures, s.ends.ok.0, high, w.if-left-eq0.false))
    ] in
    let counted = r.2.count in
    omega (arith, start, c.len-2.ensures, s.nodes.ok.0, length-map s.nodes.items (mark_of g.S.IndexStorage.number), counted, split_length unplaced r.1 r.2.pieces s.ends.items c.args.count p.1 p.0 r.2.flat p.2)

pub returns-clause-stands : goal.returns-clause-stands
returns-clause-stands g c = λ G ts below f head h is.
    let number = g.S.IndexStorage.number in
    let s = c.args.self.now in
    let high = height unplaced ts h.pieces s.ends.items c.args.count f below h.flat is in
    let start : c.if-left-eq0.start ≡ length (flat_stack unplaced below) =
    elim c.if-left-eq0.branch [
      | then-left-eq0 w ↦ omega (arith, w.start-is, none_below unplaced ts h.pieces s.ends.items c.args.count f below h.flat is (omega (arith, c.len.ensures, s.ends.ok.0, high, w.if-left-eq0.true)))
      | else-left-eq0 w ↦ w.start-is ∙ w.index.ensures ∙ start_at unplaced ts h.pieces s.ends.items c.args.count f below h.flat is (c.len.result - c.args.count - 1) _ (grind (arith, c.len.ensures, s.ends.ok.0, high, w.if-left-eq0.false))
    ] in
    let long = length-map s.nodes.items (mark_of number) in
    let all = h.count in
    let counted : (c.len-2.result - c.if-left-eq0.start) + c.if-left-eq0.start ≡ length (marks_of number s.nodes.items) =
    omega (arith, start, c.len-2.ensures, s.nodes.ok.0, long, all, split_length unplaced ts h.pieces s.ends.items c.args.count f below h.flat is) in
    let nodes = c.push.new.self in
    let put : marks_of number nodes.items ≡ marks_of number s.nodes.items ++ mark_by (number c.args.pidx.0) c.reach_of-reach.result ∷ [] = ap (marks_of number) c.in_ok-push.ensures.items ∙ map-append (mark_of number) s.nodes.items _ in
    let count : c.len-3.result ≡ length (marks_of number nodes.items) = omega (arith, c.len-3.ensures, nodes.ok.0, length-map nodes.items (mark_of number)) in
    put_reduced ts below f (marks_of number s.nodes.items) (marks_of number nodes.items) s.ends.items c.put_above.new.stack.items s.large c.are_large-self.result c.args.count (number c.args.pidx.0) c.if-left-eq0.start c.reach_of-reach.result (c.len-2.result - c.if-left-eq0.start) h is start counted c.reach_of-reach.ensures c.are_large-self.ensures put
    (c.in_ok-put_above.ensures ∙ ap (λ k. take k s.ends.items ++ c.len-3.result ∷ []) (omega (arith, c.len.ensures, s.ends.ok.0)) ∙ ap (λ n. take (length s.ends.items - c.args.count) s.ends.items ++ n ∷ []) count)
