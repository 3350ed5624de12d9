use Rattle.std.proofs.Common.{refl}
use Rattle.lrkit_c.specs.Lexed.{AnswersLex}
use Rattle.lrkit_c.proofs.lexing.answer_lex.Goals as goal

pub returns-in-Ok : goal.returns-in-Ok
returns-in-Ok c = AnswersLex.lexed c.in-Ok.found.lexemes.items c.in-Ok.found.fault c.in-Ok.ensures.lexed (rw c.as_slice.ensures.value at c.put_lexemes-put.ensures)

pub returns-in-Err : goal.returns-in-Err
returns-in-Err c = AnswersLex.refused c.in-Err.status c.in-Err.ensures.refused (refl, refl, c.answer.ensures)
