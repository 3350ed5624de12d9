use Rattle.std.proofs.Common.{length, sym, ap, ◌∙◌, subst, arith}
use Rattle.cfg_sentences.specs.CostTable.{AreCapped}
use Rattle.cfg_sentences.proofs.CostSteps.{body_seen}
use Rattle.cfg_sentences.proofs.sentences.kept_costs.KeptCosts.body_cost.Goals as goal

pub body_cost-requires-clause-rules : goal.body_cost-requires-clause-rules
body_cost-requires-clause-rules g c = ap length c.as_slice.ensures.value ∙ c.self.invariant.0

pub body_cost-requires-clause-capped : goal.body_cost-requires-clause-capped
body_cost-requires-clause-capped g c = subst AreCapped (sym c.as_slice.ensures.value) (λ A n e. let le = c.self.invariant.1.within A n e in omega (arith, le))

pub returns : goal.returns
returns g c =
    let s = c.self.inside in
    body_seen s.tokens.now.grammar s.tokens.now.costs s.costly.items c.as_slice.result.now c.args.self.now c.self.view_is c.as_slice.ensures.value (g.S.IndexStorage.number c.args.pidx.0) c.body_cost.result c.body_cost.ensures
