use Rattle.lrtable.specs.Stepping.{HaveNoNext}
use Rattle.state_table.specs.CoreViews.{items_of}
use Rattle.lrtable.proofs.tails.any_incomplete.Given as goal

abbrev pub invariant-items : goal.invariant-items
invariant-items g l = HaveNoNext l.grm.grammar (items_of g.S.IndexStorage.number l.items) l.k
