use Rattle.std.proofs.Common.{arith, ◌<◌, ◌+◌, ◌-◌, refl}
use Rattle.std.proofs.lemmas.List.{length-map}
use Rattle.parse_trees.specs.Lex.{span_by}
use Rattle.parse_trees.specs.FlatTrees.{pieces_of, piece_of}
use Rattle.parse_trees.proofs.FlatWalks.{size_is, below_at, root_within, all_left, next_left, less_left, none_left}
use Rattle.parse_trees.proofs.flat.push_children.Goals as goal

pub below_at-requires : goal.below_at-requires
below_at-requires g c =
    let h = root_within (span_by g.L.Lexeme.lex) (pieces_of g.S.IndexStorage.number c.args.nodes.now) c.requires.stands.0 c.args.at.index c.requires.stands.1 c.requires.stands.2 c.requires.stands.3 in
    omega (arith, h, length-map c.args.nodes.now (piece_of g.S.IndexStorage.number))

pub overflow_sub-stop : goal.overflow_sub-stop
overflow_sub-stop g c =
    let t = c.requires.stands.1 in
    let h = below_at (span_by g.L.Lexeme.lex) (pieces_of g.S.IndexStorage.number c.args.nodes.now) c.requires.stands.0 c.args.at.index c.below_at.result t c.requires.stands.2 c.requires.stands.3 c.below_at.ensures in
    let e = c.requires.stands.3 in
    omega (arith, h, size_is t, e)

pub children-init : goal.children-init
children-init g c = λ k t s e.
    let h = below_at (span_by g.L.Lexeme.lex) (pieces_of g.S.IndexStorage.number c.args.nodes.now) k c.args.at.index c.below_at.result t s e c.below_at.ensures in
    (omega (arith, h, size_is t), all_left (span_by g.L.Lexeme.lex) (pieces_of g.S.IndexStorage.number c.args.nodes.now) k (c.args.at.depth + 1) c.args.at.index t c.args.waiting.now.items s e)

pub below_at-requires-in-children : goal.below_at-requires-in-children
below_at-requires-in-children g c =
    let at = span_by g.L.Lexeme.lex in
    let pieces = pieces_of g.S.IndexStorage.number c.args.nodes.now in
    let k = c.requires.stands.0 in
    let t = c.requires.stands.1 in
    let l = c.children.invariant k t c.requires.stands.2 c.requires.stands.3 in
    let n = next_left at pieces k (c.args.at.depth + 1) c.children.end t _ _ l.1 (omega (arith, l.0, c.children-test.true)) in
    let e = n.3 in
    let h = root_within at pieces n.0 (c.children.end - 1) n.1 n.2 (omega (arith, e, size_is n.1)) in
    omega (arith, h, length-map c.args.nodes.now (piece_of g.S.IndexStorage.number))

pub overflow_sub-end : goal.overflow_sub-end
overflow_sub-end g c =
    let at = span_by g.L.Lexeme.lex in
    let pieces = pieces_of g.S.IndexStorage.number c.args.nodes.now in
    let k = c.requires.stands.0 in
    let t = c.requires.stands.1 in
    let l = c.children.invariant k t c.requires.stands.2 c.requires.stands.3 in
    let n = next_left at pieces k (c.args.at.depth + 1) c.children.end t _ _ l.1 (omega (arith, l.0, c.children-test.true)) in
    let e = n.3 in
    let s = size_is n.1 in
    let h = below_at at pieces n.0 (c.children.end - 1) c.below_at-in-children.result n.1 n.2 (omega (arith, e, s)) c.below_at-in-children.ensures in
    omega (arith, h, s, e)

pub children-preserved : goal.children-preserved
children-preserved g c = λ k t s e.
    let at = span_by g.L.Lexeme.lex in
    let pieces = pieces_of g.S.IndexStorage.number c.args.nodes.now in
    let l = c.children.invariant k t s e in
    let some : k < c.children.end = omega (arith, l.0, c.children-test.true) in
    (l.0, less_left at pieces k (c.args.at.depth + 1) c.children.end (c.children.end - 1 - c.below_at-in-children.result) c.below_at-in-children.result t c.args.waiting.now.items c.children.waiting.items c.push.new.self.items l.1 some c.below_at-in-children.ensures refl c.in_ok-push.ensures.items)

pub returns : goal.returns
returns g c = λ k t s e.
    let at = span_by g.L.Lexeme.lex in
    let pieces = pieces_of g.S.IndexStorage.number c.args.nodes.now in
    let l = c.children.invariant k t s e in
    none_left at pieces k (c.args.at.depth + 1) c.children.end t c.args.waiting.now.items c.children.waiting.items l.1 (omega (arith, l.0, c.children-test.false))
