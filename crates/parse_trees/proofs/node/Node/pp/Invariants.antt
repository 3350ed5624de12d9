use Rattle.std.proofs.Common.{◌≡◌, ◌++◌, length, reverse, string_bytes}
use Rattle.parse_trees.specs.Shapes.{shape_of, tree_text, waiting_text, CanShowWaiting}
use Rattle.parse_trees.proofs.node.Node.pp.Given as goal

abbrev pub invariant-waiting : goal.invariant-waiting
invariant-waiting g l = record {
  text : string_bytes l.text ++ waiting_text l.grm g.L.Lexeme.lex l.input g.S.IndexStorage.number (reverse l.waiting.items) ≡ tree_text l.grm g.L.Lexeme.lex l.input 0 (shape_of g.S.IndexStorage.number l.fn.self);
  shown : CanShowWaiting l.grm g.L.Lexeme.lex l.input g.S.IndexStorage.number (length (string_bytes l.text)) (reverse l.waiting.items);
}

abbrev pub decreases-waiting : goal.decreases-waiting
decreases-waiting g l = length (waiting_text l.grm g.L.Lexeme.lex l.input g.S.IndexStorage.number (reverse l.waiting.items))
