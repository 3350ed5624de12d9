use Rattle.std.proofs.Common.{subst}
use Rattle.cfg_numbered.specs.Value.{IsGrammar}
use Rattle.cfg_numbered.proofs.yacc.grammar.NumberedGrammar.prod_precedence.Goals as goal

pub returns-clause-levels : goal.returns-clause-levels
returns-clause-levels g c = (subst (IsGrammar g.S.IndexStorage.MAX) c.self.view_is c.self.invariant.0).levels
