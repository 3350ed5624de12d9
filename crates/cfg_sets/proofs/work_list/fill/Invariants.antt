use Rattle.std.proofs.Common.{◌≡◌, ◌+◌, ◌≤◌, length}
use Rattle.cfg_sets.proofs.work_list.fill.Given as goal

abbrev pub invariant-takings : goal.invariant-takings
invariant-takings g l = record {
  work : l.work.rules ≡ g.T.WorkTable.rules l.table;
  same : g.T.WorkTable.is_of_same l.initial.table l.table;
  sound : g.T.WorkTable.is_sound l.table;
  closed : g.T.WorkTable.is_closed_but l.table l.work.list;
  takings : l.steps + (g.T.WorkTable.room l.table + length l.work.list) ≤ l.initial.steps + (g.T.WorkTable.room l.initial.table + length l.initial.work.list);
}

abbrev pub decreases-takings : goal.decreases-takings
decreases-takings g l = g.T.WorkTable.room l.table + length l.work.list
