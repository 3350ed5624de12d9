use Rattle.std.proofs.Common.{subst}
use Rattle.cfg_sentences.specs.CostTable.{cost_of, AreCosts, IsClosedBy}
use Rattle.cfg_sentences.proofs.sentences.least.least_costs.Goals as goal

pub returns-clause-costs : goal.returns-clause-costs
returns-clause-costs g c =
    let t = c.in_ok-closed.closed in
    subst (λ v. AreCosts v.grammar (cost_of v.costs) t.least.items) c.in_ok-closed.ensures.same c.in_ok-closed.ensures.sound

pub returns-clause-closed : goal.returns-clause-closed
returns-clause-closed g c = λ p lt.
    let t = c.in_ok-closed.closed in
    subst (λ v. IsClosedBy v.grammar (cost_of v.costs) p t.least.items) c.in_ok-closed.ensures.same (c.in_ok-closed.ensures.closed p lt)
