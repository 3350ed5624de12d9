use Rattle.std.proofs.Common.{ap, map, ◌∙◌, [], ◌∷◌}
use Rattle.std.specs.List.{flat_map}
use Rattle.std.proofs.lemmas.List.{map-append}
use Rattle.cfg_read.specs.SyntaxTexts.{AlternativeText}
use Rattle.cfg_read.specs.Asts.{production_ast}
use Rattle.cfg_read.specs.AstModels.{production_of}
use Rattle.cfg_read.specs.SyntaxModels.{alternative_of}
use Rattle.cfg_read.specs.Settling.{UsesText, uses_of}
use Rattle.cfg_read.proofs.Settled.{declared_of_all, uses_more, made_more}
use Rattle.cfg_read.proofs.yacc.ast.settle.Uses.push_productions.Goals as goal

pub alternatives-preserved : goal.alternatives-preserved
alternatives-preserved c =
    let u = uses_of c.args.self.now in
    let v = uses_of c.alternatives.self in
    let a = c.in-Some.alternative in
    let seen = c.alternatives.yielded in
    let made = c.alternatives.made.items in
    let same = ap (λ (x : UsesText). x.known.declared) c.alternatives.invariant.1 ∙ declared_of_all u (flat_map (λ (x : AlternativeText). x.symbols) (map alternative_of seen)) in (
      ap (map production_of) c.in_ok-push.ensures.items
          ∙ map-append production_of made (c.in_ok-new.new ∷ [])
          ∙ made_more (production_ast u.known.declared) alternative_of (map production_of c.args.made.now.items) (map production_of made) seen a (production_of c.in_ok-new.new) c.alternatives.invariant.0
          (c.in_ok-new.ensures.production ∙ ap (λ d. production_ast d (alternative_of a)) same),
      uses_more (λ (x : AlternativeText). x.symbols) alternative_of u v (uses_of c.to_production.new.self) seen a c.alternatives.invariant.1 c.in_ok-new.ensures.uses,
    )
