use Rattle.std.proofs.Common.{get_or, refl, sym, ◌∙◌}
use Rattle.cfg_sentences.specs.CostTable.{cost_of}
use Rattle.cfg_sentences.proofs.SettleSteps.{settled_more, settled_all}
use Rattle.cfg_sentences.proofs.sentences.bounded.are_settled.Goals as goal

pub rules-preserved : goal.rules-preserved
rules-preserved g c =
    let list = c.args.group.now in
    let i = c.rules.index in
    settled_more c.args.costly.now.grammar (cost_of c.args.costly.now.costs) c.args.costly.now.table c.args.set.now.bits c.args.rest.now.bits list i (get_or list i 0) refl
    (λ p o. c.is_settled.ensures c.if-not-is_settled.false p (record { in_range = o.in_range; head = o.head ∙ sym c.rule_at.ensures })) c.rules.invariant

pub returns : goal.returns
returns g c = λ _. settled_all c.args.costly.now.grammar (cost_of c.args.costly.now.costs) c.args.costly.now.table c.args.set.now.bits c.args.rest.now.bits c.args.group.now c.rules.index c.rules-test.false c.rules.invariant
