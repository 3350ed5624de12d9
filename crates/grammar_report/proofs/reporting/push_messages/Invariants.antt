use Rattle.std.proofs.Common.{map, string_bytes, take}
use Rattle.text_messages.specs.Added.{said}
use Rattle.grammar_report.specs.Messages.{Shows}
use Rattle.grammar_report.proofs.reporting.push_messages.Given as goal

abbrev pub invariant-messages : goal.invariant-messages
invariant-messages l = Shows l.source (string_bytes l.initial.text) (map said (take l.message-index l.messages)) (string_bytes l.text)
