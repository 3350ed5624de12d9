use Rattle.std.proofs.Common.{arith, ◌≡◌, ◌<◌, ◌+◌, ◌++◌, length, string_bytes, reverse, ap, length-append}
use Rattle.parse_trees.specs.Shapes.{rule_line, lexeme_line}
use Rattle.parse_trees.proofs.NodeLines.{deeper_shown, rule_shown, all_shown, rule_line_long, lexeme_line_long}
use Rattle.parse_trees.proofs.node.show_next.Goals as goal

pub returns-in_ok-push_lexeme_line-in-Term-clause-waiting :
    goal.returns-in_ok-push_lexeme_line-in-Term-clause-waiting
returns-in_ok-push_lexeme_line-in-Term-clause-waiting g c =
    let line : string_bytes c.push_lexeme_line.new.text ≡ string_bytes c.args.text.now ++ lexeme_line c.args.grm.now g.L.Lexeme.lex c.args.input.now c.args.depth c.in-Term.lexeme = c.in_ok-push_lexeme_line-in-Term.ensures in
    deeper_shown g.L.Lexeme.lex g.S.IndexStorage.number c.args.grm.now c.args.input.now (length (string_bytes c.args.text.now)) (length (string_bytes c.push_lexeme_line.new.text)) (reverse c.args.waiting.now.items)
    (omega (arith, ap length line, length-append (string_bytes c.args.text.now) (lexeme_line c.args.grm.now g.L.Lexeme.lex c.args.input.now c.args.depth c.in-Term.lexeme))) c.requires.waiting

pub returns-in_ok-push_lexeme_line-in-Term-clause-more :
    goal.returns-in_ok-push_lexeme_line-in-Term-clause-more
returns-in_ok-push_lexeme_line-in-Term-clause-more g c =
    let line : string_bytes c.push_lexeme_line.new.text ≡ string_bytes c.args.text.now ++ lexeme_line c.args.grm.now g.L.Lexeme.lex c.args.input.now c.args.depth c.in-Term.lexeme = c.in_ok-push_lexeme_line-in-Term.ensures in
    omega (arith, ap length line, length-append (string_bytes c.args.text.now) (lexeme_line c.args.grm.now g.L.Lexeme.lex c.args.input.now c.args.depth c.in-Term.lexeme), lexeme_line_long {S = g.row.S.Denot} g.L.Lexeme.lex g.S.IndexStorage.number c.args.grm.now c.args.input.now c.args.depth c.in-Term.lexeme)

pub returns-in_ok-push_nodes-in-Nonterm-clause-text :
    goal.returns-in_ok-push_nodes-in-Nonterm-clause-text
returns-in_ok-push_nodes-in-Nonterm-clause-text g c =
    let put = c.in_ok-push_nodes-in-Nonterm.ensures.text c.args.grm.now c.args.input.now in
    rule_shown g.L.Lexeme.lex g.S.IndexStorage.number c.args.grm.now c.args.input.now (string_bytes c.args.text.now) (string_bytes c.push_rule_line.new.text) c.args.depth c.args.node.now c.in-Nonterm.ridx c.in-Nonterm.nodes c.args.waiting.now.items c.push_nodes.new.waiting.items
    c.in-Nonterm.is c.in_ok-push_rule_line-in-Nonterm.ensures (rw c.as_slice.ensures.value at put)

pub returns-in_ok-push_nodes-in-Nonterm-clause-waiting :
    goal.returns-in_ok-push_nodes-in-Nonterm-clause-waiting
returns-in_ok-push_nodes-in-Nonterm-clause-waiting g c =
    let line : string_bytes c.push_rule_line.new.text ≡ string_bytes c.args.text.now ++ rule_line c.args.grm.now c.args.depth (g.S.IndexStorage.number c.in-Nonterm.ridx.0) = c.in_ok-push_rule_line-in-Nonterm.ensures in
    let long : length (string_bytes c.args.text.now) + c.args.depth < length (string_bytes c.push_rule_line.new.text) =
    omega (arith, ap length line, length-append (string_bytes c.args.text.now) (rule_line c.args.grm.now c.args.depth (g.S.IndexStorage.number c.in-Nonterm.ridx.0)), rule_line_long g.L.Lexeme.lex g.S.IndexStorage.number c.args.grm.now c.args.input.now c.args.depth (g.S.IndexStorage.number c.in-Nonterm.ridx.0)) in
    let all = all_shown g.L.Lexeme.lex g.S.IndexStorage.number c.args.grm.now c.args.input.now c.args.node.now c.in-Nonterm.ridx c.in-Nonterm.nodes c.in-Nonterm.is c.requires.shown in
    c.in_ok-push_nodes-in-Nonterm.ensures.shown c.args.grm.now c.args.input.now (length (string_bytes c.push_rule_line.new.text)) (omega arith)
    (rw c.as_slice.ensures.value all)
    (deeper_shown g.L.Lexeme.lex g.S.IndexStorage.number c.args.grm.now c.args.input.now (length (string_bytes c.args.text.now)) (length (string_bytes c.push_rule_line.new.text)) (reverse c.args.waiting.now.items) (omega arith) c.requires.waiting)

pub returns-in_ok-push_nodes-in-Nonterm-clause-more :
    goal.returns-in_ok-push_nodes-in-Nonterm-clause-more
returns-in_ok-push_nodes-in-Nonterm-clause-more g c =
    let line : string_bytes c.push_rule_line.new.text ≡ string_bytes c.args.text.now ++ rule_line c.args.grm.now c.args.depth (g.S.IndexStorage.number c.in-Nonterm.ridx.0) = c.in_ok-push_rule_line-in-Nonterm.ensures in
    omega (arith, ap length line, length-append (string_bytes c.args.text.now) (rule_line c.args.grm.now c.args.depth (g.S.IndexStorage.number c.in-Nonterm.ridx.0)), rule_line_long {S = g.row.S.Denot} g.L.Lexeme.lex g.S.IndexStorage.number c.args.grm.now c.args.input.now c.args.depth (g.S.IndexStorage.number c.in-Nonterm.ridx.0))
