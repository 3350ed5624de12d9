use Rattle.cfg_read.specs.ErrorModels.{failures_in}
use Rattle.cfg_read.proofs.FileFailures.{front_fails}
use Rattle.cfg_read.proofs.yacc.file.no_kind.Goals as goal

pub returns-in-Ok : goal.returns-in-Ok
returns-in-Ok c = front_fails c.new.result (failures_in c.in-Ok.errors.items) c.new.ensures.start c.new.ensures.end c.in-Ok.ensures
