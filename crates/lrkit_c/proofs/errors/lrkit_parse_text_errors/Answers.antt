use Rattle.std.proofs.Common.{sym}
use Rattle.lrkit_c.proofs.errors.lrkit_parse_text_errors.Goals as goal

pub returns-clause-answer : goal.returns-clause-answer
returns-clause-answer c = rw (sym c.take-held.ensures) (rw c.deref.ensures at c.answer_text_errors-put.ensures)
