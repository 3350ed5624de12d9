use Rattle.std.proofs.Common.{◌-◌, length}
use Rattle.cfg_read.specs.NameModels.{names_in}
use Rattle.cfg_read.proofs.ReachedLemmas.{Walked, all_names}
use Rattle.cfg_read.proofs.yacc.ast.GrammarAST.reached_rules.Given as goal

abbrev pub invariant-rules : goal.invariant-rules
invariant-rules l = Walked l.self (names_in l.names) l.number

abbrev pub decreases-rules : goal.decreases-rules
decreases-rules l = length (all_names l.self) - l.number
