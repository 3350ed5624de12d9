use Rattle.std.proofs.Common.{ap}
use Rattle.text_messages.specs.Places.{SourceValue}
use Rattle.lrkit_c.proofs.reports.object_report.Goals as goal

pub returns-in-Ok-clause-outcome : goal.returns-in-Ok-clause-outcome
returns-in-Ok-clause-outcome c = rw (ap (λ (s : SourceValue). s.text) c.in-Ok.ensures) at c.object_on-made.ensures.outcome
