use Rattle.std.proofs.Common.{arith}
use Rattle.cfg_sets.proofs.TokenRows.{row_width, put_rows, put_value, put_was}
use Rattle.cfg_sets.proofs.sets.TokenSets.put.Goals as goal

pub set-requires : goal.set-requires
set-requires c =
    let w = row_width c.self.inside.rows.items c.self.inside.width c.args.self.now c.self.view_is c.self.invariant c.args.rule c.requires.rule c.index_mut-row.result.now c.index_mut-row.ensures.value in
    let lt = c.requires.token in
    omega (arith, w, lt)

pub returns-clause-was : goal.returns-clause-was
returns-clause-was c = put_was c.self.inside.rows.items c.self.inside.width c.args.self.now c.self.view_is c.self.invariant c.args.rule c.requires.rule c.index_mut-row.result.now c.index_mut-row.ensures.value c.set.new.self c.args.token c.set.ensures.bits c.set.result c.set.ensures.changed

pub returns-clause-value : goal.returns-clause-value
returns-clause-value c = put_value c.self.inside.rows.items c.self.inside.width c.args.self.now c.self.view_is c.self.invariant c.args.rule c.requires.rule c.index_mut-row.result.now c.index_mut-row.ensures.value c.set.new.self c.args.token c.set.ensures.bits

pub invariant_of-self : goal.invariant_of-self
invariant_of-self c = put_rows c.self.inside.rows.items c.self.inside.width c.args.self.now c.self.view_is c.self.invariant c.args.rule c.requires.rule c.index_mut-row.result.now c.index_mut-row.ensures.value c.set.new.self c.args.token c.set.ensures.bits
