use Rattle.std.proofs.Common.{◌≡◌, ◌++◌}
use Rattle.cfg_read.specs.ErrorModels.{failures_in}
use Rattle.cfg_read.proofs.yacc.validity.unknown.push_errors.Given as goal

abbrev pub invariant-others : goal.invariant-others
invariant-others l = failures_in l.errors.items ≡ failures_in l.fn.errors.items ++ failures_in l.yielded
