use Rattle.std.proofs.Common.{ℕ, ◌<◌}
use Rattle.state_table.specs.CellRows.{IsContested}
use Rattle.state_table.specs.CellViews.{precedences_of}
use Rattle.state_table.specs.GraphParts.{parts_in, targets_in}
use Rattle.state_table.specs.TableRows.{AreRowsOf, rows_of}
use Rattle.state_table.proofs.graph_rows.rows_of_graph.Given as goal

abbrev pub invariant-states : goal.invariant-states
invariant-states g l =
    let number = g.S.IndexStorage.number in
    record {
      rows : AreRowsOf l.grm.grammar (precedences_of l.grm) (parts_in l.grm.grammar l.sg) (targets_in l.sg) l.number (rows_of number l.rows);
      quiet : (s p : ℕ) → s < l.number → IsContested l.grm.grammar (parts_in l.grm.grammar l.sg s) p → ⊥;
    }
