use Rattle.std.proofs.Common.{take}
use Rattle.text_messages.specs.Added.{AddsSome}
use Rattle.grammar_report.specs.Messages.{AreOfErrors}
use Rattle.grammar_report.proofs.faults.push_errors.Given as goal

abbrev pub invariant-errors : goal.invariant-errors
invariant-errors l = AddsSome (AreOfErrors l.initial.messages.text (take l.error-index l.errors)) l.initial.messages l.messages
