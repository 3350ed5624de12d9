use Rattle.std.proofs.Common.{◌+◌, ◌++◌, ◌∙◌, ap, sym, subst, arith, length, reverse}
use Rattle.std.proofs.lemmas.List.{length-map, reverse-reverse}
use Rattle.parse_trees.specs.Lex.{span_by}
use Rattle.parse_trees.specs.FlatTrees.{piece_of, root_visits, below, StandsAt}
use Rattle.parse_trees.proofs.FlatWalks.{any_root}
use Rattle.parse_trees.proofs.flat.FlatTree.children.Goals as goal

pub push_children-requires-clause-stands : goal.push_children-requires-clause-stands
push_children-requires-clause-stands g c =
    let t = c.nodes.ensures.tree in
    let root = any_root (span_by g.L.Lexeme.lex) c.args.self.now.pieces t.0 c.args.at.index t.1 c.requires.index in
    rw c.nodes.ensures.value root

pub push_children-requires-clause-depth : goal.push_children-requires-clause-depth
push_children-requires-clause-depth g c = omega (arith, c.requires.depth, ap length c.nodes.ensures.value, length-map c.nodes.result.now (piece_of g.S.IndexStorage.number))

pub returns-clause-root : goal.returns-clause-root
returns-clause-root g c =
    let t = c.nodes.ensures.tree in
    any_root (span_by g.L.Lexeme.lex) c.args.self.now.pieces t.0 c.args.at.index t.1 c.requires.index

pub returns-clause-children : goal.returns-clause-children
returns-clause-children g c = λ k t s e.
    let at = span_by g.L.Lexeme.lex in
    let roots = root_visits k (c.args.at.depth + 1) (below t) in
    let stands = subst (λ pieces. StandsAt at pieces k t) (sym c.nodes.ensures.value) s in
    c.reverse.ensures.items ∙ ap reverse (c.in_ok-push_children.ensures k t stands e ∙ ap (λ l. l ++ reverse roots) c.new-visits.ensures.items) ∙ reverse-reverse roots

pub returns-in_err-push_children-clause-root : goal.returns-in_err-push_children-clause-root
returns-in_err-push_children-clause-root g c =
    let t = c.nodes.ensures.tree in
    any_root (span_by g.L.Lexeme.lex) c.args.self.now.pieces t.0 c.args.at.index t.1 c.requires.index
