use Rattle.std.proofs.Common.{ℕ, ◌<◌, ◌≤◌, ◌-◌, length, get_or}
use Rattle.state_table.proofs.Halvings.{Halved}
use Rattle.state_table.proofs.rows.row_search.Given as goal

abbrev pub invariant-halves : goal.invariant-halves
invariant-halves g l = record {
  high : l.high ≤ length l.row;
  below : (i : ℕ) (d : ℕ × g.row.V.Denot) → i < l.low → (get_or l.row i d).0 < l.number;
  above : (i : ℕ) (d : ℕ × g.row.V.Denot) → l.high ≤ i → i < length l.row → l.number < (get_or l.row i d).0;
  halved : Halved (l.high - l.low) (length l.row) l.initial.steps l.steps;
}

abbrev pub decreases-halves : goal.decreases-halves
decreases-halves g l = l.high - l.low
