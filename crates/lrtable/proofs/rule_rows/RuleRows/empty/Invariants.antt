use Rattle.std.proofs.Common.{◌≡◌, false, replicate}
use Rattle.cfg_sets.proofs.TokenRows.{rows_of}
use Rattle.lrtable.proofs.rule_rows.RuleRows.empty.Given as goal

abbrev pub invariant-rows : goal.invariant-rows
invariant-rows l = rows_of l.rows.items ≡ replicate l.counter (replicate l.width false)
