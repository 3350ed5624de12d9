use Rattle.cfg_sentences.proofs.RaiseSteps.{answers_unbounded, answers_none, answers_cost, answers_large}
use Rattle.cfg_sentences.proofs.sentences.SentenceGenerator.max_sentence_cost.Goals as goal

pub returns-then-get_unchecked-clause-ok : goal.returns-then-get_unchecked-clause-ok
returns-then-get_unchecked-clause-ok g c =
    let s = c.self.inside in
    answers_unbounded s.least.grammar s.least.costs s.unbounded.bits s.greatest.items c.self.invariant c.args.self.now c.self.view_is c.to_usize-rule.result (g.S.IndexStorage.number c.args.ridx.0) c.to_usize-rule.ensures.value c.get_unchecked.result c.get_unchecked.ensures c.if-get_unchecked.true

pub returns-in-None-clause-err : goal.returns-in-None-clause-err
returns-in-None-clause-err g c =
    let s = c.self.inside in
    answers_none s.least.grammar s.least.costs s.unbounded.bits s.greatest.items c.self.invariant c.args.self.now c.self.view_is c.to_usize-rule.result (g.S.IndexStorage.number c.args.ridx.0) c.to_usize-rule.ensures.value c.get_unchecked.result c.get_unchecked.ensures c.requires c.if-get_unchecked.false c.index.result.now c.index.ensures c.kept_tables_are_exact.ensures c.in-None.is

pub returns-in-Some-clause-ok : goal.returns-in-Some-clause-ok
returns-in-Some-clause-ok g c =
    let s = c.self.inside in
    answers_cost s.least.grammar s.least.costs s.unbounded.bits s.greatest.items c.self.invariant c.args.self.now c.self.view_is c.to_usize-rule.result (g.S.IndexStorage.number c.args.ridx.0) c.to_usize-rule.ensures.value c.get_unchecked.result c.get_unchecked.ensures c.requires c.if-get_unchecked.false c.index.result.now c.index.ensures c.kept_tables_are_exact.ensures c.in-Some.cost c.in-Some.is c.if-cost-lt-BOUND.true

pub returns-in-Some-2-clause-err : goal.returns-in-Some-2-clause-err
returns-in-Some-2-clause-err g c =
    let s = c.self.inside in
    answers_large s.least.grammar s.least.costs s.unbounded.bits s.greatest.items c.self.invariant c.args.self.now c.self.view_is c.to_usize-rule.result (g.S.IndexStorage.number c.args.ridx.0) c.to_usize-rule.ensures.value c.get_unchecked.result c.get_unchecked.ensures c.requires c.if-get_unchecked.false c.index.result.now c.index.ensures c.stays_well_formed.ensures c.bounded_rules_have_greatest_costs.ensures c.in-Some.cost c.in-Some.is c.if-cost-lt-BOUND.false
