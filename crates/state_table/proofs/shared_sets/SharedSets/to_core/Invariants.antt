use Rattle.std.proofs.Common.{◌≡◌, take}
use Rattle.state_table.specs.Meeting.{rows_in}
use Rattle.state_table.specs.Sharing.{shared_core}
use Rattle.state_table.specs.CoreViews.{items_of}
use Rattle.state_table.proofs.shared_sets.SharedSets.to_core.Given as goal

abbrev pub invariant-entries : goal.invariant-entries
invariant-entries g l = record {
  items : items_of g.S.IndexStorage.number l.items.items ≡ take l.k (shared_core g.S.IndexStorage.number l.self).items;
  rows : rows_in l.looks.items ≡ take l.k (shared_core g.S.IndexStorage.number l.self).rows;
}
