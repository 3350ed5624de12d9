use Rattle.cfg_theory.specs.Grammar.{rule}
use Rattle.state_table.specs.GraphViews.{edges_seen}
use Rattle.lrpar.specs.Fitting.{BadRule}
use Rattle.lrpar.proofs.Edging.{ClearTo}
use Rattle.lrpar.proofs.parserdata.edges.least_rule_into.Given as goal

abbrev pub invariant-edges : goal.invariant-edges
invariant-edges g l = ClearTo (edges_seen g.S.IndexStorage.number l.edges) rule (BadRule (g.S.IndexStorage.number l.start.0) (g.S.IndexStorage.number l.rules.0)) l.index
