use Rattle.lrkit_c.proofs.reports.lrkit_report.Goals as goal

pub returns : goal.returns
returns c = record { found = c.find_report-found.result; is = c.find_report-found.ensures.outcome; refused = c.find_report-found.ensures.refused; put = c.put_report-put.ensures }
