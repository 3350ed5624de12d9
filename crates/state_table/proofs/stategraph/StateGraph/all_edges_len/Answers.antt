use Rattle.std.proofs.Common.{◌≡◌, length, sym, ap, ◌∙◌, arith, rules}
use Rattle.cfg_base.specs.declared.symbol.Symbol.{Symbol}
use Rattle.std.specs.declared.alloc.Global.{Global}
use Rattle.std.specs.declared.vec.Vec.{Vec}
use Rattle.state_table.specs.Graphs.{GraphValue}
use Rattle.state_table.specs.GraphViews.{edges_seen}
use Rattle.state_table.specs.declared.stidx.StIdx.{StIdx}
use Rattle.state_table.proofs.Edges.{count_more, edges_length}
use Rattle.state_table.proofs.stategraph.StateGraph.all_edges_len.Goals as goal

pub lists-preserved : goal.lists-preserved
lists-preserved g c =
    let number = g.S.IndexStorage.number in
    let test = c.lists-test.true in
    let end : c.len-index-end.result ≡ length c.self.inside.edges.items = search rules in
    let len : c.len.result ≡ length c.index.result.now.items = search rules in
    count_more (λ (l : Vec (Symbol g.row.S.Denot × StIdx g.row.S.Denot) Global). edges_seen number l.items) c.self.inside.edges.items c.args.self.now.edges c.lists.index c.len.result 18446744073709551615 c.lists.count c.saturating_add-count.result c.index.result.now
    (sym (ap (λ (v : GraphValue). v.edges) c.self.view_is)) (omega (arith, test, end)) c.index.ensures (len ∙ sym (edges_length number c.index.result.now.items)) c.lists.invariant c.saturating_add-count.ensures
