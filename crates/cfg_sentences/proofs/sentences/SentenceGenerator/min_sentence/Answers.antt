use Rattle.std.proofs.Common.{subst, arith}
use Rattle.cfg_theory.specs.Grammar.{WellFormed}
use Rattle.cfg_sentences.specs.CostTable.{cost_of}
use Rattle.cfg_sentences.specs.Sentences.{Costed}
use Rattle.cfg_sentences.specs.TokenLists.{tokens_of}
use Rattle.cfg_sentences.specs.CheapestTable.{IsFirstCheapest}
use Rattle.cfg_sentences.proofs.CostSteps.{answers_none, answers_large}
use Rattle.cfg_sentences.proofs.Dictionary.{tokens_count}
use Rattle.cfg_sentences.proofs.sentences.SentenceGenerator.min_sentence.Goals as goal

pub returns-in-None-clause-err : goal.returns-in-None-clause-err
returns-in-None-clause-err g c =
    let s = c.self.inside.least in
    answers_none s c.stays_least.ensures.costs c.stays_least.ensures.closed c.args.self.now c.self.view_is (g.S.IndexStorage.number c.args.ridx.0) c.of_rule.result c.of_rule.ensures c.in-None.is

pub returns-in-Some-2-clause-err : goal.returns-in-Some-2-clause-err
returns-in-Some-2-clause-err g c =
    let s = c.self.inside.least in
    answers_large s c.stays_least.ensures.costs c.stays_least.ensures.closed c.args.self.now c.self.view_is (g.S.IndexStorage.number c.args.ridx.0) c.of_rule.result c.of_rule.ensures c.in-Some.cost c.stays_well_formed.ensures c.productive_rules_have_least_costs.ensures c.in-Some.is c.if-cost-lt-BOUND.false

pub returns-in_ok-list-in-Some-clause-short : goal.returns-in_ok-list-in-Some-clause-short
returns-in_ok-list-in-Some-clause-short g c costly =
    let number = g.S.IndexStorage.number in
    let G = c.args.self.now.grammar in
    let w = tokens_of number c.in_ok-list-in-Some.list.items in
    let good = subst (λ (v : Costed). WellFormed v.grammar) c.self.view_is c.stays_well_formed.ensures in
    let first = subst (λ (v : Costed). IsFirstCheapest v.grammar (cost_of v.costs) (number c.args.ridx.0) w) c.self.view_is c.in_ok-list-in-Some.ensures in
    let cheapest = first.cheapest in
    let le = c.cheap_lists_are_short.ensures.short G (cost_of c.args.self.now.costs) good costly (number c.args.ridx.0) w cheapest.has in
    let n = tokens_count number c.in_ok-list-in-Some.list.items in
    omega (arith, le, n)
