use Rattle.std.proofs.Common.{arith, ◌≡◌, ◌+◌, ◌-◌, ◌≤◌, suc, length, drop, refl, subst}
use Rattle.parse_trees.proofs.NodeLines.{Put, one_put}
use Rattle.parse_trees.proofs.node.push_nodes.Goals as goal

pub nodes-preserved : goal.nodes-preserved
nodes-preserved g c =
    let m = length c.args.nodes.now - 1 - c.nodes.at in
    let below : c.nodes.at + 1 ≤ length c.args.nodes.now = omega arith in
    let was : length c.args.nodes.now - c.nodes.at ≡ suc m = omega arith in
    let now : m ≡ length c.args.nodes.now - (c.nodes.at + 1) = omega arith in
    let put : Put g.L.Lexeme.lex g.S.IndexStorage.number c.args.depth (drop (suc m) c.args.nodes.now) c.args.waiting.now.items c.nodes.waiting.items =
    subst (λ k. Put g.L.Lexeme.lex g.S.IndexStorage.number c.args.depth (drop k c.args.nodes.now) c.args.waiting.now.items c.nodes.waiting.items) was c.nodes.invariant in
    let next : Put g.L.Lexeme.lex g.S.IndexStorage.number c.args.depth (drop m c.args.nodes.now) c.args.waiting.now.items c.push.new.self.items =
    one_put g.L.Lexeme.lex g.S.IndexStorage.number c.args.depth m c.args.nodes.now c.args.waiting.now.items c.nodes.waiting.items c.push.new.self.items
    (record { node = record { ref_ptr = _; now = c.index-nodes-count.result }; depth = c.args.depth }) put (omega arith) c.index-nodes-count.is refl c.in_ok-push.ensures.items in
    subst (λ k. Put g.L.Lexeme.lex g.S.IndexStorage.number c.args.depth (drop k c.args.nodes.now) c.args.waiting.now.items c.push.new.self.items) now next

pub returns-clause-shown : goal.returns-clause-shown
returns-clause-shown g c = λ h input bound fits all ws.
    let whole : length c.args.nodes.now - c.nodes.at ≡ 0 = omega arith in
    c.nodes.invariant.shown h input bound fits (rw whole all) ws
