use Rattle.std.proofs.Common.{◌≡◌, ◌≤◌, length, take}
use Rattle.state_table.specs.Meeting.{rows_in}
use Rattle.lrtable.proofs.pager.copy_looks.Given as goal

abbrev pub invariant-each : goal.invariant-each
invariant-each l = record {
  within : l.k ≤ length l.own.items;
  copied : rows_in (take l.k l.own.items) ≡ rows_in (take l.k l.looks);
}
