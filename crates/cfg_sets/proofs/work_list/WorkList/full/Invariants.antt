use Rattle.std.proofs.Common.{◌≡◌, ℕ, ◌+◌, ◌<◌, ◌≤◌, length}
use Rattle.std.specs.List.{Contains}
use Rattle.cfg_sets.proofs.work_list.WorkList.full.Given as goal

abbrev pub invariant-rules : goal.invariant-rules
invariant-rules l = record {
  rules : l.work.rules ≡ l.rules;
  all : (A : ℕ) → l.rules ≤ A + l.number → A < l.rules → Contains l.work.list A;
  length : length l.work.list ≤ l.number;
}
