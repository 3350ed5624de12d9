use Rattle.std.proofs.Common.{◌≡◌, ◌++◌, take}
use Rattle.cfg_read.specs.Names.{words_in}
use Rattle.cfg_read.specs.SyntaxModels.{symbols_of}
use Rattle.cfg_read.specs.NameModels.{words_at}
use Rattle.cfg_read.proofs.yacc.names.push_words.Given as goal

abbrev pub invariant-symbols : goal.invariant-symbols
invariant-symbols l = words_at l.found.items ≡ words_at l.fn.found.items ++ words_in (symbols_of (take l.symbol-index l.symbols))
