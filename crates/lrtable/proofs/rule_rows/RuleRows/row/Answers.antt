use Rattle.cfg_sets.proofs.TokenRows.{row_is, row_width}
use Rattle.lrtable.proofs.rule_rows.RuleRows.row.Goals as goal

pub returns-clause-bits : goal.returns-clause-bits
returns-clause-bits c = row_is c.self.inside.rows.items c.self.inside.width c.args.self.now c.self.view_is c.self.invariant c.args.rule c.requires c.index.result.now c.index.ensures

pub returns-clause-width : goal.returns-clause-width
returns-clause-width c = row_width c.self.inside.rows.items c.self.inside.width c.args.self.now c.self.view_is c.self.invariant c.args.rule c.requires c.index.result.now c.index.ensures
