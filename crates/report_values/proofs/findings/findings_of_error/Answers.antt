use Rattle.std.proofs.Common.{◌+◌, ap, ◌∙◌}
use Rattle.report_values.proofs.findings.findings_of_error.Goals as goal

pub returns-in-Ok-clause-errors : goal.returns-in-Ok-clause-errors
returns-in-Ok-clause-errors c = c.in-Ok.ensures.errors ∙ ap (λ n. n + 1) c.no_findings-findings.ensures.errors
