use Rattle.std.proofs.Common.{refl}
use Rattle.lrkit_c.specs.Lexed.{AnswersText}
use Rattle.lrkit_c.proofs.parsing.answer_text.Goals as goal

pub returns-in-Ok : goal.returns-in-Ok
returns-in-Ok c = AnswersText.lexed c.in-Ok.lexer.items c.in-Ok.ensures.lexed c.answer_lexed-put.ensures

pub returns-in-Err : goal.returns-in-Err
returns-in-Err c = AnswersText.refused c.in-Err.status c.in-Err.ensures.refused (refl, refl, c.answer.ensures)
