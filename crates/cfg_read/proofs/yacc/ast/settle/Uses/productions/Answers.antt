use Rattle.std.proofs.Common.{ap, map, ◌∙◌}
use Rattle.std.specs.List.{flat_map}
use Rattle.cfg_read.specs.Names.{symbols_in}
use Rattle.cfg_read.specs.Asts.{productions_in}
use Rattle.cfg_read.specs.AstModels.{production_of}
use Rattle.cfg_read.specs.SyntaxModels.{rule_of}
use Rattle.cfg_read.specs.Settling.{UsesText, uses_of}
use Rattle.cfg_read.proofs.Settled.{declared_of_all, uses_more, parts_more}
use Rattle.cfg_read.proofs.yacc.ast.settle.Uses.productions.Goals as goal

pub rules-preserved-in_ok-push_productions : goal.rules-preserved-in_ok-push_productions
rules-preserved-in_ok-push_productions c =
    let u = uses_of c.args.self.now in
    let v = uses_of c.rules.self in
    let r = c.in-Some.rule in
    let rs = c.rules.yielded in
    let made = map production_of c.rules.made.items in
    let same = ap (λ (x : UsesText). x.known.declared) c.rules.invariant.1 ∙ declared_of_all u (flat_map symbols_in (map rule_of rs)) in (
      c.in_ok-push_productions.ensures.productions
          ∙ parts_more (productions_in u.known.declared) rule_of made (productions_in v.known.declared (rule_of r)) rs r c.rules.invariant.0 (ap (λ d. productions_in d (rule_of r)) same),
      uses_more symbols_in rule_of u v (uses_of c.push_productions.new.self) rs r c.rules.invariant.1 c.in_ok-push_productions.ensures.uses,
    )

pub rules-preserved : goal.rules-preserved
rules-preserved c =
    let u = uses_of c.args.self.now in
    let v = uses_of c.rules.self in
    let r = c.in-Some.rule in
    let rs = c.rules.yielded in
    let made = map production_of c.rules.made.items in
    let same = ap (λ (x : UsesText). x.known.declared) c.rules.invariant.1 ∙ declared_of_all u (flat_map symbols_in (map rule_of rs)) in (
      c.in_ok-push_productions.ensures.productions
          ∙ parts_more (productions_in u.known.declared) rule_of made (productions_in v.known.declared (rule_of r)) rs r c.rules.invariant.0 (ap (λ d. productions_in d (rule_of r)) same),
      uses_more symbols_in rule_of u v (uses_of c.push_productions.new.self) rs r c.rules.invariant.1 c.in_ok-push_productions.ensures.uses,
    )
