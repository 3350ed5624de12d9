use Rattle.state_table.proofs.CanonicalTables.{graph_holds}
use Rattle.state_table.proofs.laws.graphs_hold_canonical_items.Goals as goal

pub returns : goal.returns
returns c = graph_holds
