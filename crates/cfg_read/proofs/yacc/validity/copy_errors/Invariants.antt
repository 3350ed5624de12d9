use Rattle.std.proofs.Common.{◌≡◌, take}
use Rattle.cfg_read.specs.ErrorModels.{failures_in}
use Rattle.cfg_read.proofs.yacc.validity.copy_errors.Given as goal

abbrev pub invariant-errors : goal.invariant-errors
invariant-errors l = failures_in l.copies.items ≡ failures_in (take l.error-index l.errors)
