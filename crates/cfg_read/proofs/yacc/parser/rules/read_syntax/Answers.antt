use Rattle.cfg_read.proofs.yacc.parser.rules.read_syntax.Goals as goal

pub returns-clause-err : goal.returns-clause-err
returns-clause-err c = rw c.new-syntax.ensures at c.in-Err.ensures.err

pub returns-in-Ok-clause-ok : goal.returns-in-Ok-clause-ok
returns-in-Ok-clause-ok c = rw c.new-syntax.ensures at c.in-Ok.ensures.ok
