use Rattle.std.proofs.Common.{refl}
use Rattle.lrkit_c.specs.Objects.{AnswersLexemeObject}
use Rattle.lrkit_c.proofs.objects.answer_lexeme_object.Goals as goal

pub returns-in-Ok : goal.returns-in-Ok
returns-in-Ok c = AnswersLexemeObject.parsed (rw c.in-Ok.ensures.cases.0 at c.answer_pathless_object.ensures)

pub returns-in-Err : goal.returns-in-Err
returns-in-Err c = AnswersLexemeObject.not_utf8 c.in-Err.ensures.cases.0 (refl, c.answer.ensures)
