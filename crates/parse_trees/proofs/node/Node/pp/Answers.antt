use Rattle.std.proofs.Common.{string_bytes}
use Rattle.parse_trees.proofs.NodeLines.{less_left}
use Rattle.parse_trees.proofs.node.Node.pp.Goals as goal

pub waiting-smaller : goal.waiting-smaller
waiting-smaller g c =
    less_left g.L.Lexeme.lex g.S.IndexStorage.number c.args.grm.now c.args.input.now (string_bytes c.waiting.text) (string_bytes c.show_next.new.text) c.waiting.waiting.items c.pop.new.self.items c.show_next.new.waiting.items c.in-Some.next
    c.in-Some.ensures.items c.in_ok-show_next.ensures.more c.in_ok-show_next.ensures.text
