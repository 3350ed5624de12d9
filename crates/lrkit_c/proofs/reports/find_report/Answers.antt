use Rattle.lrkit_c.proofs.reports.find_report.Goals as goal

pub returns-then-form-eq0-clause-outcome : goal.returns-then-form-eq0-clause-outcome
returns-then-form-eq0-clause-outcome c = rw c.in-Ok.ensures.cases.0 at c.text_report.ensures.outcome

pub returns-then-form-eq1-clause-outcome : goal.returns-then-form-eq1-clause-outcome
returns-then-form-eq1-clause-outcome c = rw c.in-Ok.ensures.cases.0 at c.object_report.ensures.outcome

pub returns-then-form-eq2-clause-outcome : goal.returns-then-form-eq2-clause-outcome
returns-then-form-eq2-clause-outcome c = rw c.in-Ok.ensures.cases.0 at c.text_report-then-form-eq2.ensures.outcome
