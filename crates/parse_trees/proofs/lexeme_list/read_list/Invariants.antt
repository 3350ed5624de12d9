use Rattle.std.proofs.Common.{◌≡◌, map, take, Ok}
use Rattle.parse_trees.specs.Lexemes.{lexemes_of}
use Rattle.parse_trees.proofs.lexeme_list.read_list.Given as goal

abbrev pub invariant-items : goal.invariant-items
invariant-items g l = take l.index l.items ≡ map Ok (lexemes_of (take l.index l.items))
