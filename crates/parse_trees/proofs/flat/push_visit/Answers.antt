use Rattle.std.proofs.Common.{subst, refl}
use Rattle.parse_trees.specs.FlatLines.{CanShowPiece}
use Rattle.parse_trees.proofs.FlatLines.{piece_is}
use Rattle.parse_trees.proofs.flat.push_visit.Goals as goal

pub push_rule_line-requires : goal.push_rule_line-requires
push_rule_line-requires g c =
    let is = piece_is g.S.IndexStorage.number c.args.nodes.now c.args.visit.index _ _ c.node_at.ensures c.in-Nonterm.is in
    let within = subst (CanShowPiece c.args.grm.now g.L.Lexeme.lex c.args.input.now) is c.requires.shown in
    rw c.prod_to_rule.ensures (c.start_prod-start.ensures.well_formed.heads (g.S.IndexStorage.number c.in-Nonterm.pidx.0) _ (record { in_range = within; head = refl }))

pub returns-in_ok-push_lexeme_line-in-Term : goal.returns-in_ok-push_lexeme_line-in-Term
returns-in_ok-push_lexeme_line-in-Term g c =
    let is = piece_is g.S.IndexStorage.number c.args.nodes.now c.args.visit.index _ _ c.node_at.ensures c.in-Term.is in
    rw is (c.in_ok-push_lexeme_line-in-Term.ensures)

pub returns-in_ok-push_rule_line-in-Nonterm : goal.returns-in_ok-push_rule_line-in-Nonterm
returns-in_ok-push_rule_line-in-Nonterm g c =
    let is = piece_is g.S.IndexStorage.number c.args.nodes.now c.args.visit.index _ _ c.node_at.ensures c.in-Nonterm.is in
    let line = c.in_ok-push_rule_line-in-Nonterm.ensures in
    rw is (rw c.prod_to_rule.ensures at line)
