use Rattle.std.proofs.Common.{◌≡◌, Bool, ◌||◌, List, take, drop}
use Rattle.table_theory.specs.Cells.{accepts_in}
use Rattle.state_table.specs.CellViews.{reductions_of}
use Rattle.state_table.specs.GraphParts.{complete_items}
use Rattle.state_table.specs.Sharing.{entries_in}
use Rattle.state_table.proofs.graph_rows.fill_complete.Given as goal

abbrev pub invariant-entries : goal.invariant-entries
invariant-entries g l = record {
  reductions : (rows : List (List Bool)) → reductions_of g.S.IndexStorage.number rows l.reductions.items ≡ complete_items l.grm.grammar (entries_in g.S.IndexStorage.number rows (take l.i l.entries));
  accepts : (rows : List (List Bool)) → (l.accepts || accepts_in l.grm.grammar (entries_in g.S.IndexStorage.number rows (drop l.i l.entries))) ≡ accepts_in l.grm.grammar (entries_in g.S.IndexStorage.number rows l.entries);
}
