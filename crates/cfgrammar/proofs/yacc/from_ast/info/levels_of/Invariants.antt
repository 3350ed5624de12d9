use Rattle.std.proofs.Common.{◌≡◌, map, take}
use Rattle.std.specs.String.{string_bytes}
use Rattle.cfgrammar.specs.FromAst.{precedence_of}
use Rattle.cfgrammar.proofs.yacc.from_ast.info.levels_of.Given as goal

abbrev pub invariant-names : goal.invariant-names
invariant-names l = l.levels.items ≡ map (precedence_of l.ast) (map string_bytes (take l.name-index l.names))
