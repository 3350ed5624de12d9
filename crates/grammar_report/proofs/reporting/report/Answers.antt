use Rattle.grammar_report.proofs.reporting.report.Goals as goal

pub returns-clause-outcome : goal.returns-clause-outcome
returns-clause-outcome c = rw c.in_ok-source.ensures at c.report_on-made.ensures.outcome
