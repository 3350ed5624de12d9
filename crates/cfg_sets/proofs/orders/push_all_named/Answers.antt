use Rattle.std.proofs.Common.{◌≡◌, ap, ◌∙◌, arith}
use Rattle.std.proofs.lemmas.List.{length-map}
use Rattle.cfg_base.specs.declared.symbol.PIdx.{PIdx}
use Rattle.cfg_numbered.specs.Symbols.{numbers_of}
use Rattle.cfg_numbered.specs.Value.{productions_of}
use Rattle.cfg_sets.proofs.FollowFills.{number_at, of_rule}
use Rattle.cfg_sets.proofs.orders.push_all_named.Goals as goal

pub push_named-requires : goal.push_named-requires
push_named-requires g c =
    let number = g.S.IndexStorage.number in
    let G = c.args.grm.now.grammar in
    let xs = c.rule_to_prods-prods.result.now in
    let i = c.prods.index in
    let x = c.index-prods-index.result in
    let listed : numbers_of number xs ≡ productions_of G c.args.rule = c.rule_to_prods-prods.ensures ∙ ap (productions_of G) c.rule_at.ensures in
    let count = length-map xs (λ (q : PIdx _). number q.0) in
    let lt = c.prods-test.true in
    of_rule G c.args.rule i (number x.0) (numbers_of number xs) listed (omega (arith, count, lt)) (number_at number xs i x lt c.index-prods-index.is)
