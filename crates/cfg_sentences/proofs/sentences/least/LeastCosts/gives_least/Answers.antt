use Rattle.std.proofs.Common.{ℕ, ◌<◌, nat_eq, refl, sym, ap, ◌∙◌, subst}
use Rattle.cfg_theory.specs.Grammar.{head_of}
use Rattle.cfg_sentences.specs.CostTable.{cost_of, cost_in}
use Rattle.cfg_sentences.proofs.WantedSteps.{gives_none, gives_if, eq_told}
use Rattle.cfg_sentences.proofs.sentences.least.LeastCosts.gives_least.Goals as goal

pub of_rule-requires : goal.of_rule-requires
of_rule-requires g c =
    let G = c.args.self.now.grammar in
    let p = g.S.IndexStorage.number c.args.pidx.0 in
    subst (λ (A : ℕ). A < G.rules) (sym c.prod_to_rule.ensures) (c.stays_well_formed.ensures.heads p (head_of G p) (record { in_range = c.requires; head = refl }))

pub returns-in_default : goal.returns-in_default
returns-in_default g c =
    gives_none c.args.self.now.grammar (cost_of c.args.self.now.costs) c.args.self.now.table (g.S.IndexStorage.number c.args.pidx.0) (g.S.IndexStorage.number c.prod_to_rule.result.0) c.prod_to_rule.ensures (λ k e. c.in_default.not-Some k (c.of_rule.ensures ∙ e))

pub returns : goal.returns
returns g c =
    let table = c.args.self.now.table in
    let p = g.S.IndexStorage.number c.args.pidx.0 in
    let sums = c.in-Some-body_cost.ensures in
    gives_if c.args.self.now.grammar (cost_of c.args.self.now.costs) table p c.in-Some.cost c.in-Some-body_cost.sum sums.0 (nat_eq c.in-Some-body_cost.sum c.in-Some.cost) c.requires (ap (cost_in table) (sym c.prod_to_rule.ensures) ∙ sym c.of_rule.ensures ∙ c.in-Some.is) c.if-cost-ge-BOUND.false sums.1 sums.2 (eq_told c.in-Some-body_cost.sum c.in-Some.cost)
