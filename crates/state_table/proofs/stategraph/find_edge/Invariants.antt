use Rattle.std.proofs.Common.{◌≡◌, drop}
use Rattle.cfg_numbered.specs.Symbols.{sym_of}
use Rattle.state_table.specs.GraphViews.{edges_seen}
use Rattle.state_table.specs.Graphs.{target_in}
use Rattle.state_table.proofs.stategraph.find_edge.Given as goal

abbrev pub invariant-edges : goal.invariant-edges
invariant-edges g l =
    let number = g.S.IndexStorage.number in
    target_in (drop l.i (edges_seen number l.edges)) (sym_of number l.symbol) ≡ target_in (edges_seen number l.edges) (sym_of number l.symbol)
