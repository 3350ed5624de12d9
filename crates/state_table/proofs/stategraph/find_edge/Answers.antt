use Rattle.std.proofs.Common.{sym, ◌∙◌}
use Rattle.cfg_numbered.specs.Symbols.{sym_of}
use Rattle.state_table.specs.GraphViews.{edge_seen}
use Rattle.state_table.proofs.Edges.{found_here, found_later}
use Rattle.state_table.proofs.stategraph.find_edge.Goals as goal

pub returns-then-same_symbols : goal.returns-then-same_symbols
returns-then-same_symbols g c =
    let number = g.S.IndexStorage.number in
    found_here (edge_seen number) c.args.edges.now c.edges.i c.index-edges-i.result (sym_of number c.args.symbol) c.edges-test.true c.edges.invariant c.index-edges-i-then-same_symbols.result (sym c.same_symbols.ensures ∙ c.if-same_symbols.true)

pub edges-preserved : goal.edges-preserved
edges-preserved g c =
    let number = g.S.IndexStorage.number in
    found_later (edge_seen number) c.args.edges.now c.edges.i c.index-edges-i.result (sym_of number c.args.symbol) c.edges-test.true c.edges.invariant (sym c.same_symbols.ensures ∙ c.if-same_symbols.false)
