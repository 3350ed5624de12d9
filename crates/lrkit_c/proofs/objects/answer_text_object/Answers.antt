use Rattle.std.proofs.Common.{refl}
use Rattle.lrkit_c.specs.Objects.{AnswersTextObject}
use Rattle.lrkit_c.specs.declared.status.Status.TheVariants as statuses
use Rattle.lrkit_c.proofs.objects.answer_text_object.Goals as goal

pub returns-in-Err : goal.returns-in-Err
returns-in-Err c = AnswersTextObject.refused statuses.NotUtf8 c.in-Err.ensures.cases.0 (refl, c.answer.ensures)
