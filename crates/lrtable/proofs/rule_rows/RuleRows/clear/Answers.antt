use Rattle.std.proofs.Common.{false, length, ap, ◌∙◌}
use Rattle.std.proofs.lemmas.List.{length-replicate}
use Rattle.cfg_sets.proofs.TokenRows.{row_width, still_rows}
use Rattle.lrtable.proofs.RuleRowSteps.{cleared_value}
use Rattle.lrtable.proofs.rule_rows.RuleRows.clear.Goals as goal

pub returns : goal.returns
returns c = cleared_value c.self.inside.rows.items c.self.inside.width c.args.self.now c.self.view_is c.self.invariant c.args.rule c.requires c.index_mut-row.result.now c.index_mut-row.ensures.value c.set_all.new.self c.set_all.ensures.bits

pub invariant_of-self : goal.invariant_of-self
invariant_of-self c =
    let w = row_width c.self.inside.rows.items c.self.inside.width c.args.self.now c.self.view_is c.self.invariant c.args.rule c.requires c.index_mut-row.result.now c.index_mut-row.ensures.value in
    still_rows c.self.inside.rows.items c.self.inside.width c.args.self.now c.self.view_is c.self.invariant c.args.rule c.requires c.index_mut-row.result.now c.index_mut-row.ensures.value c.set_all.new.self (ap length c.set_all.ensures.bits ∙ length-replicate (length c.index_mut-row.result.now.bits) false ∙ w)
