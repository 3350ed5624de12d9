use Rattle.std.proofs.Common.{◌≤◌, take}
use Rattle.state_table.specs.GraphTexts.{NoneLead}
use Rattle.state_table.specs.GraphViews.{edges_seen}
use Rattle.state_table.proofs.graph_texts.next_target.Given as goal

abbrev pub invariant-edges : goal.invariant-edges
invariant-edges g l = (l.from ≤ l.least) × (l.least ≤ l.last) × NoneLead (edges_seen g.S.IndexStorage.number (take l.i l.edges)) l.from l.least
