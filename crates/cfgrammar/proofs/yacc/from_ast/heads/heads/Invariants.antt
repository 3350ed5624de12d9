use Rattle.cfgrammar.proofs.FromAstHeads.{Noted}
use Rattle.cfgrammar.proofs.yacc.from_ast.heads.heads.Given as goal

abbrev pub invariant-rules : goal.invariant-rules
invariant-rules l = Noted l.ast l.index l.heads.items
