use Rattle.state_table.specs.Meeting.{rows_in}
use Rattle.state_table.specs.CoreViews.{core_of_set}
use Rattle.state_table.proofs.Sharing.{CopiesCore}
use Rattle.state_table.proofs.shared_sets.SharedSets.of_core.Given as goal

abbrev pub invariant-items : goal.invariant-items
invariant-items g l = CopiesCore g.S.IndexStorage.number (core_of_set g.S.IndexStorage.number l.core) l.k l.shared.entries.items (rows_in l.shared.sets.items)
