use Rattle.std.proofs.Common.{subst, refl, arith}
use Rattle.std.proofs.lemmas.List.{length-map}
use Rattle.parse_trees.specs.FlatLines.{CanShowPiece}
use Rattle.parse_trees.specs.FlatTrees.{piece_of, pieces_of}
use Rattle.parse_trees.specs.Lex.{span_by}
use Rattle.parse_trees.proofs.FlatLines.{piece_is, visit_within}
use Rattle.word_lines.specs.Lexing.{lex_of}
use Rattle.word_lines.proofs.trees.push_node.Goals as goal

pub node_at-requires : goal.node_at-requires
node_at-requires g c =
    let number = g.S.IndexStorage.number in
    let within = visit_within (span_by (lex_of number)) (pieces_of number c.args.nodes.now) c.args.grm.now (lex_of number) c.args.line.now c.args.visit.index c.requires in
    omega (arith, within, length-map c.args.nodes.now (piece_of number))

pub push_lexeme-requires : goal.push_lexeme-requires
push_lexeme-requires g c =
    let is = piece_is g.S.IndexStorage.number c.args.nodes.now c.args.visit.index _ _ c.node_at.ensures c.in-Term.is in
    subst (CanShowPiece c.args.grm.now (lex_of g.S.IndexStorage.number) c.args.line.now) is c.requires

pub push_rule-requires : goal.push_rule-requires
push_rule-requires g c =
    let is = piece_is g.S.IndexStorage.number c.args.nodes.now c.args.visit.index _ _ c.node_at.ensures c.in-Nonterm.is in
    let within = subst (CanShowPiece c.args.grm.now (lex_of g.S.IndexStorage.number) c.args.line.now) is c.requires in
    rw c.prod_to_rule.ensures (c.start_prod-start.ensures.well_formed.heads (g.S.IndexStorage.number c.in-Nonterm.pidx.0) _ (record { in_range = within; head = refl }))

pub returns-in_ok-push_lexeme-in-Term : goal.returns-in_ok-push_lexeme-in-Term
returns-in_ok-push_lexeme-in-Term g c =
    let is = piece_is g.S.IndexStorage.number c.args.nodes.now c.args.visit.index _ _ c.node_at.ensures c.in-Term.is in
    rw is (c.in_ok-push_lexeme-in-Term.ensures)

pub returns-in_ok-push_rule-in-Nonterm : goal.returns-in_ok-push_rule-in-Nonterm
returns-in_ok-push_rule-in-Nonterm g c =
    let is = piece_is g.S.IndexStorage.number c.args.nodes.now c.args.visit.index _ _ c.node_at.ensures c.in-Nonterm.is in
    let line = c.in_ok-push_rule-in-Nonterm.ensures in
    rw is (rw c.prod_to_rule.ensures at line)
