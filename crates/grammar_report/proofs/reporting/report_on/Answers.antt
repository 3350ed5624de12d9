use Rattle.grammar_report.proofs.reporting.report_on.Goals as goal

pub returns-clause-outcome : goal.returns-clause-outcome
returns-clause-outcome c = rw c.text.ensures at c.in_ok-reading.ensures.outcome
