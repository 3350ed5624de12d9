use Rattle.std.proofs.Common.{arith, ◌≡◌, ◌-◌, ◌∷◌, ◌++◌, [], List, length, ap, ◌∙◌, refl}
use Rattle.std.proofs.lemmas.List.{length-map}
use Rattle.parse_trees.specs.declared.flat.Visit.{Visit}
use Rattle.parse_trees.specs.Lex.{span_by}
use Rattle.parse_trees.specs.FlatTrees.{pieces_of, piece_of, preorder}
use Rattle.parse_trees.proofs.FlatWalks.{walk_begins, some_nodes, next_stands, next_walks, found_less}
use Rattle.parse_trees.proofs.flat.preorder_of.Goals as goal

pub overflow_sub-nodes : goal.overflow_sub-nodes
overflow_sub-nodes g c =
    let at = span_by g.L.Lexeme.lex in
    let h = some_nodes at (pieces_of g.S.IndexStorage.number c.args.nodes.now) c.requires.0 c.requires.1 in
    omega (arith, h, length-map c.args.nodes.now (piece_of g.S.IndexStorage.number))

pub waiting-init : goal.waiting-init
waiting-init g c = λ t flat_is.
    let at = span_by g.L.Lexeme.lex in
    let pieces = pieces_of g.S.IndexStorage.number c.args.nodes.now in
    let some = some_nodes at pieces t flat_is in
    let long = length-map c.args.nodes.now (piece_of g.S.IndexStorage.number) in
    let visit : Visit = record { index = length c.args.nodes.now - 1; depth = 0 } in
    let pushed : c.push.new.self.items ≡ c.new-waiting.result.items ++ visit ∷ [] = c.in_ok-push.ensures.items in
    let waiting : c.push.new.self.items ≡ visit ∷ [] = pushed ∙ ap (λ (l : List Visit). l ++ visit ∷ []) c.new-waiting.ensures.items in
    walk_begins at pieces t visit c.in_ok-found.found.items c.push.new.self.items flat_is (omega arith) refl c.in_ok-found.ensures.items waiting

pub push_children-requires-clause-stands : goal.push_children-requires-clause-stands
push_children-requires-clause-stands g c =
    let at = span_by g.L.Lexeme.lex in
    let pieces = pieces_of g.S.IndexStorage.number c.args.nodes.now in
    let w = c.waiting.invariant c.requires.0 c.requires.1 in
    let n = next_stands at pieces _ _ _ c.pop.new.self.items c.in-Some.visit w c.in-Some.ensures.items in
    (n.0, n.1, n.2, n.3)

pub push_children-requires-clause-depth : goal.push_children-requires-clause-depth
push_children-requires-clause-depth g c =
    let at = span_by g.L.Lexeme.lex in
    let pieces = pieces_of g.S.IndexStorage.number c.args.nodes.now in
    let w = c.waiting.invariant c.requires.0 c.requires.1 in
    let n = next_stands at pieces _ _ _ c.pop.new.self.items c.in-Some.visit w c.in-Some.ensures.items in
    let h = n.4 in
    omega (arith, h, length-map c.args.nodes.now (piece_of g.S.IndexStorage.number))

pub waiting-preserved : goal.waiting-preserved
waiting-preserved g c = λ t flat_is.
    let at = span_by g.L.Lexeme.lex in
    let pieces = pieces_of g.S.IndexStorage.number c.args.nodes.now in
    next_walks at pieces (preorder 0 0 t) c.waiting.found.items c.waiting.waiting.items c.pop.new.self.items c.push_children.new.waiting.items c.push-in-Some.new.self.items c.in-Some.visit
    (c.waiting.invariant t flat_is) c.in-Some.ensures.items c.in_ok-push-2.ensures.items (λ k u s e. c.in_ok-push_children.ensures k u s e)

pub waiting-smaller : goal.waiting-smaller
waiting-smaller g c =
    let at = span_by g.L.Lexeme.lex in
    let pieces = pieces_of g.S.IndexStorage.number c.args.nodes.now in
    let t = c.requires.0 in
    let flat_is = c.requires.1 in
    let walks = next_walks at pieces (preorder 0 0 t) c.waiting.found.items c.waiting.waiting.items c.pop.new.self.items c.push_children.new.waiting.items c.push-in-Some.new.self.items c.in-Some.visit
    (c.waiting.invariant t flat_is) c.in-Some.ensures.items c.in_ok-push-2.ensures.items (λ k u s e. c.in_ok-push_children.ensures k u s e) in
    let h = found_less at pieces t c.waiting.found.items c.push-in-Some.new.self.items c.waiting.waiting.items c.push_children.new.waiting.items c.in-Some.visit flat_is walks c.in_ok-push-2.ensures.items in
    omega (arith, h, length-map c.args.nodes.now (piece_of g.S.IndexStorage.number))
