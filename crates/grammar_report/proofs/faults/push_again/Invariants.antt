use Rattle.std.proofs.Common.{map, take}
use Rattle.text_messages.specs.Added.{AddsSaid}
use Rattle.grammar_report.specs.Messages.{again_at}
use Rattle.grammar_report.proofs.faults.push_again.Given as goal

abbrev pub invariant-spans : goal.invariant-spans
invariant-spans l = AddsSaid (map (again_at l.initial.messages.text) (take l.span-index l.spans)) l.initial.messages l.messages
