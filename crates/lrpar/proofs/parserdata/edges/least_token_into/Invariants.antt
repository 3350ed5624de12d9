use Rattle.cfg_theory.specs.Grammar.{token}
use Rattle.state_table.specs.GraphViews.{edges_seen}
use Rattle.lrpar.specs.Fitting.{BadToken}
use Rattle.lrpar.proofs.Edging.{ClearTo}
use Rattle.lrpar.proofs.parserdata.edges.least_token_into.Given as goal

abbrev pub invariant-edges : goal.invariant-edges
invariant-edges g l = ClearTo (edges_seen g.S.IndexStorage.number l.edges) token (BadToken (g.S.IndexStorage.number l.start.0)) l.index
