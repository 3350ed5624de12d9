use Rattle.word_lines.proofs.ReadLines.{takes_line}
use Rattle.word_lines.proofs.repairs.take_line.Goals as goal

pub returns-in_ok-push-in-Some : goal.returns-in_ok-push-in-Some
returns-in_ok-push-in-Some g c = takes_line g.S.IndexStorage.number c.args.grm.now c.args.line.now c.args.sequences.now.items _ c.in-Some.sequence (rw c.in-Some.is at c.in_ok-steps.ensures) c.in_ok-push-in-Some.ensures.items
