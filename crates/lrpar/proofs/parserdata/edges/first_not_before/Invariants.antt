use Rattle.cfg_numbered.specs.Symbols.{sym_of}
use Rattle.state_table.specs.GraphViews.{edges_seen}
use Rattle.lrpar.specs.Fitting.{Passed}
use Rattle.lrpar.proofs.parserdata.edges.first_not_before.Given as goal

abbrev pub invariant-edges : goal.invariant-edges
invariant-edges g l = Passed (edges_seen g.S.IndexStorage.number l.edges) l.index (sym_of g.S.IndexStorage.number l.symbol)
