use Rattle.std.proofs.Common.{◌≡◌, take}
use Rattle.cfg_read.specs.Names.{distinct, texts}
use Rattle.cfg_read.specs.NameModels.{words_at, names_in}
use Rattle.cfg_read.proofs.yacc.names.distinct_names.Given as goal

abbrev pub invariant-words : goal.invariant-words
invariant-words l = names_in l.names ≡ texts (distinct (words_at (take l.word-index l.words)))
