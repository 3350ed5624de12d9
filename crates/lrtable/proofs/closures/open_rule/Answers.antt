use Rattle.std.proofs.Common.{◌≡◌, arith, subst, rules}
use Rattle.cfg_numbered.specs.Value.{productions_of}
use Rattle.state_table.specs.Meeting.{rows_in, row}
use Rattle.state_table.specs.Sharing.{TakesIn}
use Rattle.lrtable.proofs.Fronts.{listed_prod, listed_count}
use Rattle.lrtable.proofs.Opened.{listed_next, listed_all, rule_begun}
use Rattle.lrtable.proofs.closures.open_rule.Goals as goal

pub prods-init : goal.prods-init
prods-init g c =
    let number = g.S.IndexStorage.number in
    let old = c.args.set.now in
    let bits = c.args.looks.now.bits in
    let e = c.in_ok-index.ensures in
    (rule_begun number c.args.grm.now.grammar (number c.args.ridx.0) c.in_ok-index.index bits old c.set_like.new.self e.sets e.entries e.within e.like c.requires.core c.requires.within).0

pub prods-preserved : goal.prods-preserved
prods-preserved g c =
    let number = g.S.IndexStorage.number in
    let G = c.args.grm.now.grammar in
    let A = number c.args.ridx.0 in
    let old = c.args.set.now in
    let bits = c.args.looks.now.bits in
    let new = c.set_like.new.self in
    let n = listed_prod number c.rule_to_prods-prods.result.now (productions_of G A) c.prods.k c.index-prods-k.result c.rule_to_prods-prods.ensures c.prods-test.true c.index-prods-k.is in
    let zero : number c.unwrap.result ≡ 0 = search rules in
    let h = subst (λ d. TakesIn number (number c.index-prods-k.result.0) d (row (rows_in c.prods.set.sets.items) c.in_ok-index.index) c.prods.set c.share.new.self) zero c.in_ok-share.ensures in
    listed_next number G A c.prods.k c.in_ok-index.index (number c.index-prods-k.result.0) bits new c.prods.set c.share.new.self c.requires.width n.0 c.prods.invariant
    (subst (λ b. TakesIn number (number c.index-prods-k.result.0) 0 b c.prods.set c.share.new.self) c.prods.invariant.is h)

pub returns : goal.returns
returns g c =
    let number = g.S.IndexStorage.number in
    let G = c.args.grm.now.grammar in
    let A = number c.args.ridx.0 in
    let old = c.args.set.now in
    let bits = c.args.looks.now.bits in
    let e = c.in_ok-index.ensures in
    let n = listed_count number c.rule_to_prods-prods.result.now (productions_of G A) c.rule_to_prods-prods.ensures in
    let done = c.prods-test.false in
    listed_all number G A c.prods.k c.in_ok-index.index bits old c.prods.set (omega (arith, n, done))
    ((rule_begun number G A c.in_ok-index.index bits old c.set_like.new.self e.sets e.entries e.within e.like c.requires.core c.requires.within).1 c.prods.k c.prods.set c.prods.invariant)
