use Rattle.std.proofs.Common.{arith}
use Rattle.cfg_numbered.specs.Value.{productions_of}
use Rattle.cfg_numbered.proofs.RuleLists.{alone}
use Rattle.lrtable.proofs.Fronts.{listed_prod}
use Rattle.lrtable.proofs.least_room.body_at.Goals as goal

pub prod-requires : goal.prod-requires
prod-requires g c =
    let number = g.S.IndexStorage.number in
    let G = c.args.grm.now.grammar in
    let A = number c.args.ridx.0 in
    let n = listed_prod number c.rule_to_prods-prods.result.now (productions_of G A) c.args.k c.index-prods-k.result c.rule_to_prods-prods.ensures (omega arith) c.index-prods-k.is in
    (alone G A (number c.index-prods-k.result.0) n.1).0
