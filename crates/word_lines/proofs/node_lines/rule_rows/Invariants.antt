-- The rows of the rules so far are made.
use Rattle.lrpar.proofs.FullSteps.{RowsTo}
use Rattle.word_lines.specs.NodeRows.{IsRuleRow}
use Rattle.word_lines.proofs.node_lines.rule_rows.Given as goal

abbrev pub invariant-rules : goal.invariant-rules
invariant-rules g l = RowsTo (IsRuleRow l.grm) l.number l.rows.items
