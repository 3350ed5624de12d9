use Rattle.std.proofs.Common.{arith, ◌≡◌, ◌++◌, ◌∷◌, [], length, ◌∙◌, ap, ◌+◌, ◌-◌, take}
use Rattle.std.proofs.lemmas.List.{length-map, map-append}
use Rattle.parse_trees.specs.Lex.{span_by}
use Rattle.parse_trees.specs.FlatTrees.{flat_stack, pieces_of, piece_of}
use Rattle.parse_trees.proofs.FlatStacks.{height, start_at, none_below, split_length, reduced}
use Rattle.parse_trees.proofs.flat.FlatBuilder.reduce.Goals.{then-left-eq0, else-left-eq0}
use Rattle.parse_trees.proofs.flat.FlatBuilder.reduce.Goals as goal

pub overflow_sub-left : goal.overflow_sub-left
overflow_sub-left g c =
    let at = span_by g.L.Lexeme.lex in
    let s = c.args.self.now in
    omega (arith, c.len.ensures, s.ends.ok.0, height at c.requires.0 (pieces_of g.S.IndexStorage.number s.nodes.items) s.ends.items c.args.count c.requires.2 c.requires.1 c.requires.3 c.requires.4)

pub overflow_sub-below : goal.overflow_sub-below
overflow_sub-below g c =
    let at = span_by g.L.Lexeme.lex in
    let s = c.args.self.now in
    let pieces = pieces_of g.S.IndexStorage.number s.nodes.items in
    let ts = c.requires.0 in
    let below = c.requires.1 in
    let f = c.requires.2 in
    let stands = c.requires.3 in
    let is = c.requires.4 in
    let high = height at ts pieces s.ends.items c.args.count f below stands is in
    let start : c.if-left-eq0.start ≡ length (flat_stack at below) =
    elim c.if-left-eq0.branch [
      | then-left-eq0 w ↦ omega (arith, w.start-is, none_below at ts pieces s.ends.items c.args.count f below stands is (omega (arith, c.len.ensures, s.ends.ok.0, high, w.if-left-eq0.true)))
      | else-left-eq0 w ↦ w.start-is ∙ w.index.ensures ∙ start_at at ts pieces s.ends.items c.args.count f below stands is (c.len.result - c.args.count - 1) _ (grind (arith, c.len.ensures, s.ends.ok.0, high, w.if-left-eq0.false))
    ] in
    omega (arith, start, c.len-2.ensures, s.nodes.ok.0, length-map s.nodes.items (piece_of g.S.IndexStorage.number), split_length at ts pieces s.ends.items c.args.count f below stands is)

pub returns-clause-stack : goal.returns-clause-stack
returns-clause-stack g c = λ ts below f stands is span.
    let at = span_by g.L.Lexeme.lex in
    let number = g.S.IndexStorage.number in
    let s = c.args.self.now in
    let pieces = pieces_of number s.nodes.items in
    let high = height at ts pieces s.ends.items c.args.count f below stands is in
    let start : c.if-left-eq0.start ≡ length (flat_stack at below) =
    elim c.if-left-eq0.branch [
      | then-left-eq0 w ↦ omega (arith, w.start-is, none_below at ts pieces s.ends.items c.args.count f below stands is (omega (arith, c.len.ensures, s.ends.ok.0, high, w.if-left-eq0.true)))
      | else-left-eq0 w ↦ w.start-is ∙ w.index.ensures ∙ start_at at ts pieces s.ends.items c.args.count f below stands is (c.len.result - c.args.count - 1) _ (grind (arith, c.len.ensures, s.ends.ok.0, high, w.if-left-eq0.false))
    ] in
    let long = length-map s.nodes.items (piece_of number) in
    let counted : (c.len-2.result - c.if-left-eq0.start) + c.if-left-eq0.start ≡ length pieces =
    omega (arith, start, c.len-2.ensures, s.nodes.ok.0, long, split_length at ts pieces s.ends.items c.args.count f below stands is) in
    let made : pieces_of number c.put_node.new.nodes.items ≡ pieces ++ _ = ap (pieces_of number) c.in_ok-put_node.ensures ∙ map-append (piece_of number) s.nodes.items _ in
    reduced at ts pieces s.ends.items c.args.count f below stands is (pieces_of number c.put_node.new.nodes.items) c.put_above.new.stack.items (number c.args.pidx.0) (c.len-2.result - c.if-left-eq0.start) c.if-left-eq0.start c.len-3.result _ span start counted made
    (omega (arith, c.len-3.ensures, c.put_node.new.nodes.ok.0, length-map c.put_node.new.nodes.items (piece_of number)))
    (c.in_ok-put_above.ensures ∙ ap (λ k. take k s.ends.items ++ c.len-3.result ∷ []) (omega (arith, c.len.ensures, s.ends.ok.0)))

pub returns-clause-put : goal.returns-clause-put
returns-clause-put g c =
    let number = g.S.IndexStorage.number in
    let s = c.args.self.now in
    (c.len-2.result - c.if-left-eq0.start, ap (pieces_of number) c.in_ok-put_node.ensures ∙ map-append (piece_of number) s.nodes.items _)
