use Rattle.cfg_sentences.proofs.CostSteps.{answers_none, answers_large}
use Rattle.cfg_sentences.proofs.sentences.SentenceGenerator.min_sentences.Goals as goal

pub returns-in-None-clause-err : goal.returns-in-None-clause-err
returns-in-None-clause-err g c =
    let s = c.self.inside.least in
    answers_none s c.stays_least.ensures.costs c.stays_least.ensures.closed c.args.self.now c.self.view_is (g.S.IndexStorage.number c.args.ridx.0) c.of_rule.result c.of_rule.ensures c.in-None.is

pub returns-in-Some-2-clause-err : goal.returns-in-Some-2-clause-err
returns-in-Some-2-clause-err g c =
    let s = c.self.inside.least in
    answers_large s c.stays_least.ensures.costs c.stays_least.ensures.closed c.args.self.now c.self.view_is (g.S.IndexStorage.number c.args.ridx.0) c.of_rule.result c.of_rule.ensures c.in-Some.cost c.stays_well_formed.ensures c.productive_rules_have_least_costs.ensures c.in-Some.is c.if-cost-lt-BOUND.false
