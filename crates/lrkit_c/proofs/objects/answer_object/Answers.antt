use Rattle.lrkit_c.proofs.Answered.{object_answered}
use Rattle.lrkit_c.proofs.objects.answer_object.Goals as goal

pub returns : goal.returns
returns c = object_answered c.args.kit.now.parser c.args.lexer.now.items _ c.find_object-found.result _ _ _ c.find_object-found.ensures.object c.find_object-found.ensures.refused c.put_object-put.ensures
