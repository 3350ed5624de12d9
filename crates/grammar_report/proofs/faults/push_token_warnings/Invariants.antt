use Rattle.text_messages.specs.Added.{AddsWarnings}
use Rattle.grammar_report.proofs.faults.push_token_warnings.Given as goal

abbrev pub invariant-hints : goal.invariant-hints
invariant-hints l = AddsWarnings l.initial.messages l.messages
