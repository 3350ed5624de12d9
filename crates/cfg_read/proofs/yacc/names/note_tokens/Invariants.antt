use Rattle.std.proofs.Common.{◌≡◌, fold, take}
use Rattle.cfg_read.specs.Names.{words_in}
use Rattle.cfg_read.specs.NameModels.{symbols_at}
use Rattle.cfg_read.specs.NameTables.{known_of, with_token}
use Rattle.cfg_read.proofs.yacc.names.note_tokens.Given as goal

abbrev pub invariant-symbols : goal.invariant-symbols
invariant-symbols l = known_of l.table ≡ fold with_token (known_of l.fn.table) (words_in (symbols_at (take l.symbol-index l.symbols)))
