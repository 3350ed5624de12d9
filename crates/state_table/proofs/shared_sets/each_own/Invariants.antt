use Rattle.state_table.specs.OwnSets.{HaveOwn}
use Rattle.state_table.specs.CoreViews.{items_of}
use Rattle.state_table.proofs.shared_sets.each_own.Given as goal

abbrev pub invariant-items : goal.invariant-items
invariant-items g l = HaveOwn g.S.IndexStorage.number (items_of g.S.IndexStorage.number l.items) l.set l.entries.items
