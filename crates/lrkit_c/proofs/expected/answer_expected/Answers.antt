use Rattle.std.proofs.Common.{refl}
use Rattle.lrkit_c.specs.Expecting.{TellsExpected}
use Rattle.lrkit_c.proofs.expected.answer_expected.Goals as goal

pub returns-in-Ok-Some : goal.returns-in-Ok-Some
returns-in-Ok-Some c =
    TellsExpected.told c.in-Ok-Some.numbers.items (rw c.in-Ok-Some.field-0-is at c.in-Ok-Some.ensures) (rw c.as_slice.ensures.value at c.put_all.ensures)

pub returns-in-Ok-None : goal.returns-in-Ok-None
returns-in-Ok-None c = TellsExpected.error (rw c.in-Ok-None.field-0-is at c.in-Ok-None.ensures) (refl, c.answer.ensures)
