use Rattle.std.proofs.Common.{◌≡◌, map, take}
use Rattle.std.specs.List.{flat_map}
use Rattle.cfg_read.specs.Names.{words_in}
use Rattle.cfg_read.specs.SyntaxModels.{line_of}
use Rattle.cfg_read.specs.NameModels.{words_at}
use Rattle.cfg_read.proofs.yacc.names.line_words.Given as goal

abbrev pub invariant-lines : goal.invariant-lines
invariant-lines l = words_at l.found.items ≡ flat_map words_in (map line_of (take l.line-index l.lines))
