use Rattle.std.proofs.Common.{map, arith}
use Rattle.std.proofs.lemmas.List.{length-map}
use Rattle.lr_theory.proofs.Sizes.{building_sizes}
use Rattle.lrtable.specs.StateViews.{value_of}
use Rattle.lrtable.proofs.Placing.{count_is}
use Rattle.lrtable.proofs.pager.build.Goals as goal

pub returns-clause-within : goal.returns-clause-within
returns-clause-within g c =
    let number = g.S.IndexStorage.number in
    let G = c.args.grm.now.grammar in
    let states = map (value_of number) c.finish.new.builder.states.items in
    let built = c.in_ok-finish.ensures.built in
    let few = c.in_ok-finish.ensures.few in
    let n = length-map c.finish.new.builder.states.items (value_of number) in
    let m = count_is states built.building built.matches in
    building_sizes.within G built.building g.S.IndexStorage.MAX c.start_prod.ensures.well_formed built.built (omega (arith, few, n, m))
