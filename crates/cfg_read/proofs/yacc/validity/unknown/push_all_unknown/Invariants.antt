use Rattle.std.proofs.Common.{◌≡◌, ◌++◌, take}
use Rattle.cfg_read.specs.Settling.{unknown_words}
use Rattle.cfg_read.specs.ErrorModels.{failures_in}
use Rattle.cfg_read.specs.Validity.{failures_at, UnknownRuleRef}
use Rattle.cfg_read.proofs.yacc.validity.unknown.push_all_unknown.Given as goal

abbrev pub invariant-names : goal.invariant-names
invariant-names l = failures_in l.errors.items ≡ failures_in l.fn.errors.items ++ failures_at UnknownRuleRef (unknown_words (take l.name-index l.names))
