use Rattle.std.proofs.Common.{refl}
use Rattle.lrkit_c.specs.Objects.{AnswersObject}
use Rattle.lrkit_c.specs.declared.status.Status.TheVariants as statuses
use Rattle.lrkit_c.proofs.Answered.{object_as_asked}
use Rattle.lrkit_c.proofs.objects.answer_pathless_object.Goals as goal

pub returns-in-Ok : goal.returns-in-Ok
returns-in-Ok c = object_as_asked _ _ _ _ _ _ _ _ c.answer_object-put.ensures c.in-Ok.ensures c.input_of.ensures

pub returns-in-Err : goal.returns-in-Err
returns-in-Err c = AnswersObject.refused statuses.Memory tt (refl, c.answer.ensures)
