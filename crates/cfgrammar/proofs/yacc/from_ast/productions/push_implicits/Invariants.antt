use Rattle.std.proofs.Common.{map, take}
use Rattle.cfgrammar.specs.FromAst.{implicit_production}
use Rattle.cfgrammar.specs.AddedProductions.{Adds}
use Rattle.cfgrammar.proofs.yacc.from_ast.productions.push_implicits.Given as goal

abbrev pub invariant-tokens : goal.invariant-tokens
invariant-tokens g l = Adds g.S.IndexStorage.number l.fn.made.items l.made.items (map (implicit_production l.ast) (take l.index l.ast.implicit_tokens))
