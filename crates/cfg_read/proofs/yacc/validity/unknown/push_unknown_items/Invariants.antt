use Rattle.std.proofs.Common.{◌≡◌, ◌++◌, map, take}
use Rattle.cfg_read.specs.Names.{is_among}
use Rattle.cfg_read.specs.ErrorModels.{failures_in}
use Rattle.cfg_read.specs.Validity.{unknown_by, UnknownToken}
use Rattle.cfg_read.proofs.LineNames.{item_word}
use Rattle.cfg_read.proofs.yacc.validity.unknown.push_unknown_items.Given as goal

abbrev pub invariant-symbols : goal.invariant-symbols
invariant-symbols l = failures_in l.errors.items ≡ failures_in l.fn.errors.items ++ unknown_by UnknownToken (is_among l.table.tokens) (map item_word (take l.symbol-index l.symbols))
