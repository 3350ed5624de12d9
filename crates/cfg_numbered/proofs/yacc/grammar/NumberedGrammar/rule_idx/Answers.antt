use Rattle.std.proofs.Common.{Some, None, sym, subst}
use Rattle.std.specs.Prelude.{map}
use Rattle.cfg_numbered.specs.Value.{IsRuleNamed}
use Rattle.cfg_numbered.proofs.Named.{placed, rule_at, rule_in}
use Rattle.cfg_numbered.proofs.yacc.grammar.NumberedGrammar.rule_idx.Goals as goal

pub returns-in-Some-clause-found : goal.returns-in-Some-clause-found
returns-in-Some-clause-found g c =
    let es = c.self.inside.rules.entries in
    let at = placed (map (λ e. e.0) es) c.args.name.now (Some c.in-Some.index) c.in-Some.ensures.index in
    let v = subst (λ v. IsRuleNamed v c.in-Some.index c.args.name.now) c.self.view_is (record { at = rule_at es c.in-Some.index c.args.name.now at }) in
    subst (λ k. IsRuleNamed c.args.self.now k c.args.name.now) (sym c.index_of.ensures) v

pub returns-in-None-clause-none : goal.returns-in-None-clause-none
returns-in-None-clause-none g c = λ k n.
    let es = c.self.inside.rules.entries in
    let v = subst (λ v. IsRuleNamed v k c.args.name.now) (sym c.self.view_is) n in
    placed (map (λ e. e.0) es) c.args.name.now None c.in-None.ensures.index k (rule_in es k c.args.name.now v.at)
