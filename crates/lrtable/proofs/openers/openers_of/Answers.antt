use Rattle.std.proofs.Common.{map, take, sym, subst, arith}
use Rattle.std.proofs.lemmas.List.{take_all}
use Rattle.cfg_numbered.specs.Value.{productions_of}
use Rattle.cfg_numbered.proofs.RuleLists.{alone}
use Rattle.lrtable.specs.Closes.{AreFrontsOf}
use Rattle.lrtable.specs.Fronts.{front_of}
use Rattle.lrtable.proofs.Fronts.{fronts_more, listed_prod, listed_count}
use Rattle.lrtable.proofs.openers.openers_of.Goals as goal

pub put_opener-requires-clause-production : goal.put_opener-requires-clause-production
put_opener-requires-clause-production g c =
    let number = g.S.IndexStorage.number in
    let G = c.args.grm.now.grammar in
    let A = number c.args.ridx.0 in
    let n = listed_prod number c.rule_to_prods-prods.result.now (productions_of G A) c.prods.k c.index-prods-k.result c.rule_to_prods-prods.ensures c.prods-test.true c.index-prods-k.is in
    (alone G A (number c.index-prods-k.result.0) n.1).0

pub prods-preserved : goal.prods-preserved
prods-preserved g c =
    let number = g.S.IndexStorage.number in
    let G = c.args.grm.now.grammar in
    let qs = productions_of G (number c.args.ridx.0) in
    let n = listed_prod number c.rule_to_prods-prods.result.now qs c.prods.k c.index-prods-k.result c.rule_to_prods-prods.ensures c.prods-test.true c.index-prods-k.is in
    subst (λ l. AreFrontsOf G l (map front_of c.put_opener.new.openers.items)) (sym n.0)
    (fronts_more G (take c.prods.k qs) (number c.index-prods-k.result.0) (map front_of c.prods.openers.items) (map front_of c.put_opener.new.openers.items) c.prods.invariant c.in_ok-put_opener.ensures)

pub returns : goal.returns
returns g c =
    let number = g.S.IndexStorage.number in
    let G = c.args.grm.now.grammar in
    let qs = productions_of G (number c.args.ridx.0) in
    let n = listed_count number c.rule_to_prods-prods.result.now qs c.rule_to_prods-prods.ensures in
    let done = c.prods-test.false in
    subst (λ l. AreFrontsOf G l (map front_of c.prods.openers.items)) (take_all c.prods.k qs (omega (arith, n, done))) c.prods.invariant

pub put_opener-requires-clause-width : goal.put_opener-requires-clause-width
put_opener-requires-clause-width g c = c.prods.invariant.width
