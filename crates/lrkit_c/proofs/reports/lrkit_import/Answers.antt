use Rattle.lrkit_c.proofs.reports.lrkit_import.Goals as goal

pub returns : goal.returns
returns c = record { found = c.find_import-found.result; made = c.find_import-found.ensures; put = c.put_import-put.ensures }
