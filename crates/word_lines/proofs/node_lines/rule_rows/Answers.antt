use Rattle.std.proofs.Common.{◌∙◌, ap, subst, arith}
use Rattle.lrpar.proofs.FullSteps.{rows_more, rows_none}
use Rattle.word_lines.specs.NodeRows.{IsRuleRow}
use Rattle.word_lines.proofs.NodeRows.{rule_row}
use Rattle.word_lines.proofs.node_lines.rule_rows.Goals as goal

pub rules-init : goal.rules-init
rules-init g c = rows_none (IsRuleRow c.args.grm.now) c.in_ok-rows.rows.items c.in_ok-rows.ensures.items

pub rules-preserved : goal.rules-preserved
rules-preserved g c =
    let number = g.S.IndexStorage.number in
    let P = IsRuleRow c.args.grm.now in
    let row = rule_row c.args.grm.now (number c.rule_at.result.0) c.rule_name_str.result.now c.in_ok-row.row.items c.rule_name_str.ensures c.in_ok-row.ensures in
    rows_more P c.rules.number c.rules.rows.items c.push.new.self.items c.in_ok-row.row c.rules.invariant (subst (λ k. P k c.in_ok-row.row.items) c.rule_at.ensures row) c.in_ok-push.ensures.items

pub returns : goal.returns
returns g c = λ s lt.
    let value = c.to_usize-count.ensures.value in
    let rules = c.rules_len.ensures in
    let done = c.rules-test.false in
    c.rules.invariant.are s (omega (arith, lt, value, rules, done))
