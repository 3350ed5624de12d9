use Rattle.text_messages.specs.Added.{AddsWarnings}
use Rattle.grammar_report.proofs.idle.push_idle_precedences.Given as goal

abbrev pub invariant-precedences : goal.invariant-precedences
invariant-precedences l = AddsWarnings l.initial.messages l.messages
