use Rattle.cfg_read.specs.NameModels.{names_in}
use Rattle.cfg_read.proofs.ReachedLemmas.{Gathered}
use Rattle.cfg_read.proofs.yacc.ast.GrammarAST.used_tokens.Given as goal

abbrev pub invariant-rules : goal.invariant-rules
invariant-rules l = Gathered l.self (names_in l.reached) (names_in l.names) l.name-index
