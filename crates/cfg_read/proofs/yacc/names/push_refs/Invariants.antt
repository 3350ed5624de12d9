use Rattle.std.proofs.Common.{◌≡◌, ◌++◌, take}
use Rattle.cfg_read.specs.NameModels.{symbols_at}
use Rattle.cfg_read.proofs.yacc.names.push_refs.Given as goal

abbrev pub invariant-symbols : goal.invariant-symbols
invariant-symbols l = symbols_at l.found.items ≡ symbols_at l.fn.found.items ++ symbols_at (take l.symbol-index l.symbols)
