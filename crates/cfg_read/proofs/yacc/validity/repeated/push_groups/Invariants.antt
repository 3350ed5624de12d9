use Rattle.std.proofs.Common.{◌≡◌, ◌++◌}
use Rattle.std.specs.List.{flat_map}
use Rattle.cfg_read.specs.ErrorModels.{failures_in, repeated_failure, span_lists}
use Rattle.cfg_read.specs.Validity.{repeated}
use Rattle.cfg_read.proofs.yacc.validity.repeated.push_groups.Given as goal

abbrev pub invariant-groups : goal.invariant-groups
invariant-groups l = failures_in l.errors.items ≡ failures_in l.fn.errors.items ++ flat_map (repeated (repeated_failure l.what)) (span_lists l.yielded)
