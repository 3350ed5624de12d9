use Rattle.std.proofs.Common.{◌≡◌, ◌++◌, ◌-◌, ◌≤◌}
use Rattle.cfg_read.specs.Judging.{count_up}
use Rattle.cfg_read.proofs.yacc.ast.build.push_range.Given as goal

abbrev pub invariant-numbers : goal.invariant-numbers
invariant-numbers l = (l.numbers.items ≡ l.fn.numbers.items ++ count_up l.start (l.number - l.start)) × (l.start ≤ l.number)
