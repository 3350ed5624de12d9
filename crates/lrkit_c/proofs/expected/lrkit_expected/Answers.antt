use Rattle.std.proofs.Common.{sym}
use Rattle.lrkit_c.proofs.expected.lrkit_expected.Goals as goal

pub returns-clause-answer : goal.returns-clause-answer
returns-clause-answer c = rw (sym c.take-held.ensures) (rw c.deref.ensures at c.answer_expected-put.ensures)
