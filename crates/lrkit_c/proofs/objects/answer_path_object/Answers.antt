use Rattle.std.proofs.Common.{refl}
use Rattle.lrkit_c.specs.Objects.{AnswersTextObject}
use Rattle.lrkit_c.proofs.objects.answer_path_object.Goals as goal

pub returns-in-Err : goal.returns-in-Err
returns-in-Err c = AnswersTextObject.path_not_utf8 c.in-Err.ensures.cases.0 (refl, c.answer.ensures)
