use Rattle.std.proofs.Common.{append_assoc}
use Rattle.parse_trees.proofs.error_texts.lexing_text.Goals as goal

pub returns : goal.returns
returns g c = simp append_assoc (rw c.line_col-line.ensures at c.in_ok-text.ensures.ok)
