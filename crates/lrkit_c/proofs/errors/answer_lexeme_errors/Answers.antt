use Rattle.std.proofs.Common.{refl}
use Rattle.lrkit_c.specs.Errors.{AnswersErrors}
use Rattle.lrkit_c.specs.declared.status.Status.TheVariants as statuses
use Rattle.lrkit_c.proofs.errors.answer_lexeme_errors.Goals as goal

pub returns-in-Ok : goal.returns-in-Ok
returns-in-Ok c = rw c.in-Ok.ensures at c.answer_errors-put.ensures

pub returns-in-Err : goal.returns-in-Err
returns-in-Err c = AnswersErrors.refused statuses.Memory tt (refl, c.answer.ensures)
