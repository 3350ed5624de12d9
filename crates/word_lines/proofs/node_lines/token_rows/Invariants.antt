-- The rows of the tokens so far are made.
use Rattle.lrpar.proofs.FullSteps.{RowsTo}
use Rattle.word_lines.specs.NodeRows.{IsTokenRow}
use Rattle.word_lines.proofs.node_lines.token_rows.Given as goal

abbrev pub invariant-tokens : goal.invariant-tokens
invariant-tokens g l = RowsTo (IsTokenRow l.grm) l.number l.rows.items
