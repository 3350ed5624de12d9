use Rattle.std.proofs.Common.{refl, arith, rules}
use Rattle.state_table.proofs.Sharing.{pushed_keeps, pushed_lt, pushed_row}
use Rattle.state_table.proofs.shared_sets.SharedSets.set_like.Goals as goal

pub returns-in-Some-clause-sets : goal.returns-in-Some-clause-sets
returns-in-Some-clause-sets g c = record { more = omega arith; same = λ n lt. refl }

pub returns-clause-within : goal.returns-clause-within
returns-clause-within g c = pushed_lt c.args.self.now.sets.items c.push.new.self.items c.in_ok-clone.field-0 c.args.looks.now.bits c.len-set.result c.in_ok-push.ensures.items c.in_ok-clone.ensures.cases (search rules)

pub returns-clause-like : goal.returns-clause-like
returns-clause-like g c = pushed_row c.args.self.now.sets.items c.push.new.self.items c.in_ok-clone.field-0 c.args.looks.now.bits c.len-set.result c.in_ok-push.ensures.items c.in_ok-clone.ensures.cases (search rules)

pub returns-clause-sets : goal.returns-clause-sets
returns-clause-sets g c = pushed_keeps c.args.self.now.sets.items c.push.new.self.items c.in_ok-clone.field-0 c.args.looks.now.bits c.len-set.result c.in_ok-push.ensures.items c.in_ok-clone.ensures.cases (search rules)
