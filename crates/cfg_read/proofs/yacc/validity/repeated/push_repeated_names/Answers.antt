use Rattle.cfg_read.proofs.yacc.validity.repeated.push_repeated_names.Goals as goal

pub returns-in-Ok : goal.returns-in-Ok
returns-in-Ok c = c.in-Ok.ensures c.in_ok-names.ensures.names
