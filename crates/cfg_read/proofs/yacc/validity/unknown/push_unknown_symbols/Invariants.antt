use Rattle.std.proofs.Common.{◌≡◌, ◌++◌, take}
use Rattle.cfg_read.specs.Names.{is_among}
use Rattle.cfg_read.specs.NameModels.{symbols_at}
use Rattle.cfg_read.specs.NameTables.{known_of}
use Rattle.cfg_read.specs.AstModels.{named_spans}
use Rattle.cfg_read.specs.ErrorModels.{failures_in}
use Rattle.cfg_read.specs.Validity.{unknown_symbols_by, known_by}
use Rattle.cfg_read.proofs.yacc.validity.unknown.push_unknown_symbols.Given as goal

abbrev pub invariant-symbols : goal.invariant-symbols
invariant-symbols l = failures_in l.errors.items ≡ failures_in l.fn.errors.items ++ unknown_symbols_by (known_by (known_of l.table).rules (is_among (named_spans l.tokens))) (symbols_at (take l.symbol-index l.symbols))
