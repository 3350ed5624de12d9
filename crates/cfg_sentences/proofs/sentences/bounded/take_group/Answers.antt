use Rattle.std.proofs.Common.{length}
use Rattle.cfg_sentences.specs.CostTable.{cost_of}
use Rattle.cfg_sentences.proofs.SettleSteps.{covers_out, covers_back, settled_bounded, settled_out}
use Rattle.cfg_sentences.proofs.sentences.bounded.take_group.Goals as goal

pub returns-then-are_settled-clause-covers : goal.returns-then-are_settled-clause-covers
returns-then-are_settled-clause-covers g c = covers_out c.args.group.now (length c.args.group.now) c.args.set.now.bits c.take_out-then-are_settled.new.set.bits c.args.rest.now.bits c.take_out.new.set.bits c.requires.covers c.take_out.ensures c.take_out-then-are_settled.ensures

pub returns-then-are_settled-clause-out : goal.returns-then-are_settled-clause-out
returns-then-are_settled-clause-out g c =
    let list = c.args.group.now in
    let to = c.take_out-then-are_settled.new.set.bits in
    let rest = c.take_out.new.set.bits in
    settled_out c.args.costly.now.grammar (cost_of c.args.costly.now.costs) c.args.costly.now.table list (length list) c.args.set.now.bits to rest
    (covers_out list (length list) c.args.set.now.bits to c.args.rest.now.bits rest c.requires.covers c.take_out.ensures c.take_out-then-are_settled.ensures)
    c.take_out-then-are_settled.ensures (c.are_settled.ensures c.if-are_settled.true) c.requires.out

pub returns-then-are_settled-clause-bounded : goal.returns-then-are_settled-clause-bounded
returns-then-are_settled-clause-bounded g c =
    let list = c.args.group.now in
    let to = c.take_out-then-are_settled.new.set.bits in
    let rest = c.take_out.new.set.bits in
    settled_bounded c.args.costly.now.grammar (cost_of c.args.costly.now.costs) c.args.costly.now.table list (length list) c.args.set.now.bits to rest
    (covers_out list (length list) c.args.set.now.bits to c.args.rest.now.bits rest c.requires.covers c.take_out.ensures c.take_out-then-are_settled.ensures)
    c.take_out-then-are_settled.ensures (c.are_settled.ensures c.if-are_settled.true) c.requires.out c.stays_kept.ensures.table c.unbounded_rules_gain.ensures c.requires.bounded

pub returns-clause-covers : goal.returns-clause-covers
returns-clause-covers g c = covers_back c.args.group.now (length c.args.group.now) c.args.set.now.bits c.args.rest.now.bits c.take_out.new.set.bits c.put_all_back.new.rest.bits c.requires.covers c.take_out.ensures c.put_all_back.ensures
