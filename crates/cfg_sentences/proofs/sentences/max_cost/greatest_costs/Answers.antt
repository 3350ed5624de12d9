use Rattle.std.proofs.Common.{ℕ, ◌<◌, length, ap, ◌∙◌, subst}
use Rattle.cfg_sentences.specs.CostTable.{cost_of}
use Rattle.cfg_sentences.specs.Greatest.{AreRaised, IsRaisedBy}
use Rattle.cfg_sentences.proofs.RaiseSteps.{kept_table}
use Rattle.cfg_sentences.proofs.sentences.max_cost.greatest_costs.Goals as goal

pub returns-clause-count : goal.returns-clause-count
returns-clause-count g c = c.in_ok-closed.ensures.sound.2.count ∙ ap (λ v. v.grammar.rules) c.in_ok-closed.ensures.same.0

pub returns-clause-table : goal.returns-clause-table
returns-clause-table g c =
    let t = c.in_ok-closed.closed in
    let G = c.args.tokens.now.grammar in
    let f = cost_of c.args.tokens.now.costs in
    let top = c.args.top in
    let bits = c.args.skipped.now.bits in
    let table = t.greatest.items in
    let h = c.in_ok-closed.ensures in
    let sound : AreRaised G f top table = subst (λ v. AreRaised v.grammar (cost_of v.costs) top table) h.same.0 (subst (λ (k : ℕ). AreRaised t.tokens.now.grammar (cost_of t.tokens.now.costs) k table) h.same.2 h.sound.2) in
    let closed : (p : ℕ) → p < length G.productions → IsRaisedBy G f top bits p table = λ p lt.
    subst (λ v. IsRaisedBy v.grammar (cost_of v.costs) top bits p table) h.same.0
    (subst (λ (k : ℕ). IsRaisedBy t.tokens.now.grammar (cost_of t.tokens.now.costs) k bits p table) h.same.2
    (subst (λ v. IsRaisedBy t.tokens.now.grammar (cost_of t.tokens.now.costs) t.top v.bits p table) h.same.1 (h.closed p lt))) in
    kept_table G f top bits table sound closed
