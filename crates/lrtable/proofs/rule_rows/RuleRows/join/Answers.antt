use Rattle.std.proofs.Common.{length, sym, ap, ◌∙◌}
use Rattle.cfg_sets.proofs.TokenRows.{row_is, row_width, join_rows, join_value, join_steps}
use Rattle.lrtable.proofs.rule_rows.RuleRows.join.Goals as goal

pub or-requires : goal.or-requires
or-requires c = row_width c.self.inside.rows.items c.self.inside.width c.args.self.now c.self.view_is c.self.invariant c.args.rule c.requires.within c.index_mut-row.result.now c.index_mut-row.ensures.value ∙ sym c.requires.width

pub returns-clause-value : goal.returns-clause-value
returns-clause-value c = join_value c.self.inside.rows.items c.self.inside.width c.args.self.now c.self.view_is c.self.invariant c.args.rule c.requires.within c.index_mut-row.result.now c.index_mut-row.ensures.value c.or.new.self c.args.tokens.now.bits c.requires.width c.or.ensures.bits

pub returns-clause-steps : goal.returns-clause-steps
returns-clause-steps c = join_steps c.self.inside.rows.items c.self.inside.width c.args.self.now c.self.view_is c.self.invariant c.args.rule c.requires.within c.index_mut-row.result.now c.index_mut-row.ensures.value c.or.new.self c.args.tokens.now.bits c.requires.width c.or.ensures.bits c.or.result c.or.ensures.changed

pub invariant_of-self : goal.invariant_of-self
invariant_of-self c = join_rows c.self.inside.rows.items c.self.inside.width c.args.self.now c.self.view_is c.self.invariant c.args.rule c.requires.within c.index_mut-row.result.now c.index_mut-row.ensures.value c.or.new.self c.args.tokens.now.bits c.requires.width c.or.ensures.bits

pub returns-clause-width_was : goal.returns-clause-width_was
returns-clause-width_was c =
    ap length (sym (row_is c.self.inside.rows.items c.self.inside.width c.args.self.now c.self.view_is c.self.invariant c.args.rule c.requires.within c.index_mut-row.result.now c.index_mut-row.ensures.value)) ∙
    row_width c.self.inside.rows.items c.self.inside.width c.args.self.now c.self.view_is c.self.invariant c.args.rule c.requires.within c.index_mut-row.result.now c.index_mut-row.ensures.value
