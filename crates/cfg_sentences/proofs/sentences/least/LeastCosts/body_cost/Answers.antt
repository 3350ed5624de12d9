use Rattle.std.proofs.Common.{length, sym, ap, ◌∙◌, subst}
use Rattle.cfg_sentences.specs.CostTable.{AreCapped}
use Rattle.cfg_sentences.proofs.CostSteps.{body_seen}
use Rattle.cfg_sentences.proofs.sentences.least.LeastCosts.body_cost.Goals as goal

pub body_cost-requires-clause-rules : goal.body_cost-requires-clause-rules
body_cost-requires-clause-rules g c = ap length c.as_slice.ensures.value ∙ c.self.invariant.0.count

pub body_cost-requires-clause-capped : goal.body_cost-requires-clause-capped
body_cost-requires-clause-capped g c = subst AreCapped (sym c.as_slice.ensures.value) c.self.invariant.0.within

pub returns : goal.returns
returns g c =
    let s = c.self.inside in
    body_seen s.tokens.grammar s.tokens.costs s.least.items c.as_slice.result.now c.args.self.now c.self.view_is c.as_slice.ensures.value (g.S.IndexStorage.number c.args.pidx.0) c.body_cost.result c.body_cost.ensures
