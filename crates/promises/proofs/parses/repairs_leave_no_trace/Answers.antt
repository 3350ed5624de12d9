use Rattle.promises.proofs.parses.repairs_leave_no_trace.Goals as goal

pub returns : goal.returns
returns g c = c.parse_flat.ensures.traceless
