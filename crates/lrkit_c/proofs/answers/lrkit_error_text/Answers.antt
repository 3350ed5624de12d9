use Rattle.lrkit_c.specs.Answers.{TellsStatus}
use Rattle.lrkit_c.proofs.answers.lrkit_error_text.Goals as goal

pub returns-in-Some : goal.returns-in-Some
returns-in-Some c = TellsStatus.told c.in-Some.found c.in-Some.ensures.some (rw (c.as_bytes.ensures.value, c.text.ensures) at c.put_text.ensures)
