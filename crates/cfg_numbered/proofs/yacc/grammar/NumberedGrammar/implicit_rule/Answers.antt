use Rattle.std.proofs.Common.{ap, subst}
use Rattle.cfg_numbered.specs.Value.{IsGrammar}
use Rattle.cfg_numbered.proofs.Facts.{implicit_named}
use Rattle.cfg_numbered.proofs.yacc.grammar.NumberedGrammar.implicit_rule.Goals as goal

pub returns-clause-named : goal.returns-clause-named
returns-clause-named g c = implicit_named g.S.IndexStorage.MAX c.args.self.now (subst (IsGrammar g.S.IndexStorage.MAX) c.self.view_is c.self.invariant.0) (λ r. g.S.IndexStorage.number r.0) c.self.inside.kept.implicit_rule (ap (λ v. v.kept.implicit_rule) c.self.view_is)
