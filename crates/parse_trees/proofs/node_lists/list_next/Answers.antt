use Rattle.std.proofs.Common.{reverse, arith}
use Rattle.parse_trees.specs.NodeLists.{waiting_entries}
use Rattle.parse_trees.proofs.NodeLists.{term_listed, nonterm_listed}
use Rattle.parse_trees.proofs.node_lists.list_next.Goals as goal

pub returns-in_ok-push-in-Term-clause-listed : goal.returns-in_ok-push-in-Term-clause-listed
returns-in_ok-push-in-Term-clause-listed g c =
    term_listed g.S.IndexStorage.number c.args.node.now c.in-Term.lexeme c.args.found.now.items c.push.new.self.items (waiting_entries g.S.IndexStorage.number (reverse c.args.waiting.now.items)) c.in-Term.is c.in_ok-push-in-Term.ensures.items

pub returns-in_ok-put_all-in-Nonterm-clause-listed : goal.returns-in_ok-put_all-in-Nonterm-clause-listed
returns-in_ok-put_all-in-Nonterm-clause-listed g c =
    let put = c.in_ok-put_all-in-Nonterm.ensures in
    nonterm_listed g.S.IndexStorage.number c.args.node.now c.in-Nonterm.ridx c.in-Nonterm.nodes c.len.result c.args.found.now.items c.push-in-Nonterm.new.self.items (waiting_entries g.S.IndexStorage.number (reverse c.args.waiting.now.items))
    (waiting_entries g.S.IndexStorage.number (reverse c.put_all.new.waiting.items)) c.in-Nonterm.is (omega (arith, c.len.ensures)) c.in_ok-push-in-Nonterm.ensures.items (rw c.as_slice.ensures.value at put)
