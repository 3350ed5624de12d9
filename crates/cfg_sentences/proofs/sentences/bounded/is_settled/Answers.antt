use Rattle.std.proofs.Common.{◌≤◌, length, ap, arith}
use Rattle.std.proofs.lemmas.List.{length-map}
use Rattle.cfg_sentences.specs.CostTable.{cost_of}
use Rattle.cfg_numbered.specs.Value.{productions_of}
use Rattle.cfg_sentences.proofs.SettleSteps.{listed_below, number_at, out_none, out_more, out_all}
use Rattle.cfg_sentences.proofs.sentences.bounded.is_settled.Goals as goal

pub settles-requires-clause-production : goal.settles-requires-clause-production
settles-requires-clause-production g c =
    let number = g.S.IndexStorage.number in
    let G = c.args.costly.now.grammar in
    let A = number c.args.ridx.0 in
    let at = number_at number c.rule_to_prods-prods.result.now (productions_of G A) c.prods.index c.index-prods-index.result c.rule_to_prods-prods.ensures c.prods-test.true c.index-prods-index.is in
    let lt = listed_below G A c.prods.index at.0 in
    let e = at.1 in
    omega (arith, lt, e)

pub prods-init : goal.prods-init
prods-init g c = out_none c.args.costly.now.grammar (cost_of c.args.costly.now.costs) c.args.costly.now.table c.args.set.now.bits c.args.rest.now.bits (g.S.IndexStorage.number c.args.ridx.0)

pub prods-preserved : goal.prods-preserved
prods-preserved g c =
    let number = g.S.IndexStorage.number in
    let G = c.args.costly.now.grammar in
    let A = number c.args.ridx.0 in
    let x = c.index-prods-index.result in
    let at = number_at number c.rule_to_prods-prods.result.now (productions_of G A) c.prods.index x c.rule_to_prods-prods.ensures c.prods-test.true c.index-prods-index.is in
    out_more G (cost_of c.args.costly.now.costs) c.args.costly.now.table c.args.set.now.bits c.args.rest.now.bits A c.prods.index (number x.0) at.1 (c.settles.ensures c.if-not-settles.false) c.prods.invariant

pub returns : goal.returns
returns g c =
    let number = g.S.IndexStorage.number in
    let G = c.args.costly.now.grammar in
    let A = number c.args.ridx.0 in
    let len = ap length c.rule_to_prods-prods.ensures in
    let count = length-map c.rule_to_prods-prods.result.now (λ p. number p.0) in
    let end = c.prods-test.false in
    let le : length (productions_of G A) ≤ c.prods.index = omega (arith, len, count, end) in
    λ _ p o. out_all G (cost_of c.args.costly.now.costs) c.args.costly.now.table c.args.set.now.bits c.args.rest.now.bits A c.prods.index p le c.prods.invariant o
