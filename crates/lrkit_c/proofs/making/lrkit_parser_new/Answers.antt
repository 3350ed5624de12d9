use Rattle.std.proofs.Common.{refl}
use Rattle.lrkit_c.specs.Making.{MakesParser}
use Rattle.lrkit_c.proofs.making.lrkit_parser_new.Goals as goal

pub returns-in-Ok : goal.returns-in-Ok
returns-in-Ok c = MakesParser.made c.in-Ok.ensures.made (refl, c.answer.ensures)

pub returns-in-Err : goal.returns-in-Err
returns-in-Err c = MakesParser.refused c.in-Err.refusal c.in-Err.ensures.refused c.in-Err.ensures.kept c.put_refusal-told.ensures
