use Rattle.std.specs.Prelude.{take}
use Rattle.lrtable.proofs.Noting.{ListEmptied}
use Rattle.lrtable.proofs.rule_rows.RuleRows.clear_each.Given as goal

abbrev pub invariant-rules : goal.invariant-rules
invariant-rules l = ListEmptied l.initial.self (take l.rule-index l.rules) l.self
