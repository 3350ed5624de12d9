use Rattle.std.proofs.Common.{◌<◌, subst}
use Rattle.cfg_numbered.proofs.Lookups.{some_rule}
use Rattle.cfg_numbered.proofs.yacc.grammar.NumberedGrammar.start_rule_idx.Goals as goal

pub returns-clause-within : goal.returns-clause-within
returns-clause-within g c = subst (λ v. 0 < v.grammar.rules) c.self.view_is (some_rule _ c.self.invariant.0.well_formed)
