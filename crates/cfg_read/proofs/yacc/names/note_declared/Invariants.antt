use Rattle.std.proofs.Common.{◌≡◌, fold, take}
use Rattle.cfg_read.specs.Names.{words_in}
use Rattle.cfg_read.specs.SyntaxModels.{symbols_of}
use Rattle.cfg_read.specs.NameTables.{known_of, with_declared}
use Rattle.cfg_read.proofs.yacc.names.note_declared.Given as goal

abbrev pub invariant-symbols : goal.invariant-symbols
invariant-symbols l = known_of l.table ≡ fold with_declared (known_of l.fn.table) (words_in (symbols_of (take l.symbol-index l.symbols)))
