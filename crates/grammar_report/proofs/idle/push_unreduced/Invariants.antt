use Rattle.text_messages.specs.Added.{AddsWarnings}
use Rattle.grammar_report.proofs.idle.push_unreduced.Given as goal

abbrev pub invariant-productions : goal.invariant-productions
invariant-productions l = AddsWarnings l.initial.messages l.messages
