use Rattle.std.proofs.Common.{refl, ap, ◌∙◌}
use Rattle.lrkit_c.specs.Lexed.{AnswersOnce}
use Rattle.lrkit_c.specs.declared.answers.LrkitAnswer.{LrkitAnswer}
use Rattle.lrkit_c.proofs.parsing.lrkit_parse_once.Goals as goal

pub returns-in-Ok : goal.returns-in-Ok
returns-in-Ok c = AnswersOnce.made c.in-Ok.held c.in-Ok.ensures.made c.answer_text-put.ensures

pub returns-in-Err : goal.returns-in-Err
returns-in-Err c = AnswersOnce.refused c.in-Err.refusal c.in-Err.ensures.refused refl refl (ap (λ (a : LrkitAnswer). a.status) c.answer.ensures ∙ c.status_of_texts-status.ensures)
