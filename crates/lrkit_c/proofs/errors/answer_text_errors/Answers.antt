use Rattle.std.proofs.Common.{refl}
use Rattle.lrkit_c.specs.Errors.{AnswersTextErrors}
use Rattle.lrkit_c.proofs.errors.answer_text_errors.Goals as goal

pub returns-in-Ok : goal.returns-in-Ok
returns-in-Ok c = AnswersTextErrors.lexed c.in-Ok.lexer.items c.in-Ok.ensures.lexed c.answer_errors-put.ensures

pub returns-in-Err : goal.returns-in-Err
returns-in-Err c = AnswersTextErrors.refused c.in-Err.status c.in-Err.ensures.refused (refl, c.answer.ensures)
