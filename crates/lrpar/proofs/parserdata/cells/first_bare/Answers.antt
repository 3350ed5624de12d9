use Rattle.std.proofs.Common.{arith}
use Rattle.lrpar.specs.Reducing.{rule_number}
use Rattle.lrpar.proofs.ItemLists.{item_here}
use Rattle.lrpar.proofs.LeastNumbers.{goes_none, goes_more, goes_all}
use Rattle.lrpar.proofs.parserdata.cells.first_bare.Goals as goal

pub items-init : goal.items-init
items-init g c = goes_none c.args.state.now.grm.now.grammar c.args.state.now.items.now c.args.state.now.stable.now (g.S.IndexStorage.number c.args.state.now.stidx.0)

pub bare_of-requires : goal.bare_of-requires
bare_of-requires g c =
    let number = g.S.IndexStorage.number in
    record { production = c.args.state.now.of_grammar (number c.item_at-pidx.result.0.0) (number c.item_at-pidx.result.1.0) (item_here c.args.state.now.items.now c.items.index (number c.item_at-pidx.result.0.0) (number c.item_at-pidx.result.1.0) (omega arith) c.item_at-pidx.ensures.production c.item_at-pidx.ensures.dot) }

pub items-preserved : goal.items-preserved
items-preserved g c =
    let number = g.S.IndexStorage.number in
    goes_more c.args.state.now.grm.now.grammar c.args.state.now.items.now c.args.state.now.stable.now (number c.args.state.now.stidx.0) c.items.index (number c.item_at-pidx.result.0.0) (number c.item_at-pidx.result.1.0) (rule_number number c.items.least) (rule_number number c.bare_of.result) (rule_number number c.lesser_rule-least.result) c.item_at-pidx.ensures.production c.item_at-pidx.ensures.dot c.items.invariant c.bare_of.ensures c.lesser_rule-least.ensures

pub returns : goal.returns
returns g c =
    let number = g.S.IndexStorage.number in
    goes_all c.args.state.now.grm.now.grammar c.args.state.now.items.now c.args.state.now.stable.now (number c.args.state.now.stidx.0) c.items.index (rule_number number c.items.least) (omega arith) (omega arith) c.items.invariant
