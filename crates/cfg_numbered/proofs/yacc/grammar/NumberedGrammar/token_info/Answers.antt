use Rattle.std.proofs.Common.{subst}
use Rattle.cfg_numbered.specs.Value.{IsGrammar}
use Rattle.cfg_numbered.proofs.yacc.grammar.NumberedGrammar.token_info.Goals as goal

pub returns-in-Some-clause-levels : goal.returns-in-Some-clause-levels
returns-in-Some-clause-levels g c = (subst (IsGrammar g.S.IndexStorage.MAX) c.self.view_is c.self.invariant.0).levels

pub returns-in-None-clause-levels : goal.returns-in-None-clause-levels
returns-in-None-clause-levels g c = (subst (IsGrammar g.S.IndexStorage.MAX) c.self.view_is c.self.invariant.0).levels
