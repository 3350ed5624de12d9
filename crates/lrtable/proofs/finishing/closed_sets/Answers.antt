use Rattle.std.proofs.Common.{map, get_or, subst, arith}
use Rattle.std.proofs.lemmas.List.{length-map}
use Rattle.lr_theory.specs.Itemset.{FitsGrammar}
use Rattle.state_table.specs.ItemRows.{map_of, FitsCore}
use Rattle.state_table.specs.CoreViews.{core_of_set}
use Rattle.lrtable.specs.StateViews.{value_of}
use Rattle.lrtable.proofs.FinalStates.{core_is, closes_next, closes_all}
use Rattle.lrtable.proofs.finishing.closed_sets.Goals as goal

pub closed_beside-requires-clause-fits : goal.closed_beside-requires-clause-fits
closed_beside-requires-clause-fits g c =
    let number = g.S.IndexStorage.number in
    let k = c.states.number in
    subst (FitsCore c.args.grm.now.grammar) (core_is number c.args.states.now k c.index-states-number.result c.states-test.true) (c.requires.fit k c.states-test.true)

pub closed_beside-requires-clause-dots : goal.closed_beside-requires-clause-dots
closed_beside-requires-clause-dots g c =
    let number = g.S.IndexStorage.number in
    let k = c.states.number in
    subst (λ d. FitsGrammar c.args.grm.now.grammar (map_of d)) (core_is number c.args.states.now k c.index-states-number.result c.states-test.true) (c.requires.dots k c.states-test.true)

pub states-preserved : goal.states-preserved
states-preserved g c =
    let number = g.S.IndexStorage.number in
    let k = c.states.number in
    let x = c.index-states-number.result in
    let core = core_of_set number (get_or c.args.states.now k x).core in (
      c.in_ok-closed_beside.ensures.ready,
      closes_next c.args.grm.now.grammar (map (value_of number) c.args.states.now) k c.states.sets.items c.push.new.self.items core c.in_ok-closed_beside.field-0 c.states.invariant.1 c.in_ok-push.ensures.items (core_is number c.args.states.now k x c.states-test.true) c.in_ok-closed_beside.ensures.closure,
    )

pub returns : goal.returns
returns g c =
    let number = g.S.IndexStorage.number in
    let done = c.states-test.false in
    let end = c.states.auto.number-end in
    let n = length-map c.args.states.now (value_of number) in
    closes_all c.args.grm.now.grammar (map (value_of number) c.args.states.now) c.states.number c.states.sets.items c.states.invariant.1 (omega (arith, done, end, n))
