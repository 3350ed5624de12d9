use Rattle.std.proofs.Common.{◌≡◌, length}
use Rattle.state_table.specs.SpreadRows.{AreSpread}
use Rattle.state_table.proofs.dense_rows.spread_rows.Given as goal

abbrev pub invariant-rows : goal.invariant-rows
invariant-rows g l = record {
  count : length l.spreads.items ≡ l.s;
  are : AreSpread l.rows l.spreads.items;
}
