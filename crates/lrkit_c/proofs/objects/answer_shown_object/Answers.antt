use Rattle.std.proofs.Common.{refl}
use Rattle.lrkit_c.specs.Objects.{AnswersTextObject}
use Rattle.lrkit_c.proofs.Answered.{object_as_asked}
use Rattle.lrkit_c.proofs.objects.answer_shown_object.Goals as goal

pub returns-in-Ok : goal.returns-in-Ok
returns-in-Ok c =
    AnswersTextObject.lexed c.in-Ok.lexer.items (rw c.as_bytes.ensures.value at c.in-Ok.ensures.lexed) (object_as_asked _ _ _ _ _ _ _ _ c.answer_object-put.ensures refl c.input_of.ensures)

pub returns-in-Err : goal.returns-in-Err
returns-in-Err c = AnswersTextObject.refused c.in-Err.status (rw c.as_bytes.ensures.value at c.in-Err.ensures.refused) (refl, c.answer.ensures)
