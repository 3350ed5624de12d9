use Rattle.std.proofs.Common.{subst}
use Rattle.grammar_report.specs.Outcomes.{IsOutcome}
use Rattle.report_values.proofs.findings.first_findings_on.Goals as goal

pub returns-clause-outcome : goal.returns-clause-outcome
returns-clause-outcome c = subst (λ t. IsOutcome t c.in_ok-reading.reading.outcome) c.text.ensures c.in_ok-reading.ensures.outcome
