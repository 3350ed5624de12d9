use Rattle.std.proofs.Common.{◌≡◌, ◌+◌, map, take, length}
use Rattle.std.specs.List.{flat_map}
use Rattle.cfg_read.specs.Names.{words_in}
use Rattle.cfg_read.specs.SyntaxModels.{line_of}
use Rattle.cfg_read.proofs.yacc.names.have_so_many_items.Given as goal

abbrev pub invariant-lines : goal.invariant-lines
invariant-lines l = l.left + length (flat_map words_in (map line_of (take l.line-index l.lines))) ≡ l.count
