use Rattle.std.proofs.Common.{map, take, option_map, string_bytes}
use Rattle.lrlex.specs.Lexing.{AreMeanings}
use Rattle.lrlex.proofs.bound.all_meanings.Given as goal

abbrev pub invariant-names : goal.invariant-names
invariant-names g l = AreMeanings g.S.IndexStorage.number l.grm (map (option_map string_bytes) (take l.index l.names)) l.meanings.items
