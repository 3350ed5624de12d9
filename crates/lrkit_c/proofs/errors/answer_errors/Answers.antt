use Rattle.lrkit_c.proofs.Answered.{errors_answered}
use Rattle.lrkit_c.proofs.errors.answer_errors.Goals as goal

pub returns : goal.returns
returns c =
    errors_answered c.args.kit.now.parser c.args.lexer.now.items c.args.edits c.find_errors-found.result _ _ _ c.find_errors-found.ensures.found c.find_errors-found.ensures.refused c.put_errors-put.ensures
