use Rattle.std.proofs.Common.{map, arith}
use Rattle.std.proofs.lemmas.List.{length-map}
use Rattle.lrtable.specs.StateViews.{value_of}
use Rattle.lrtable.proofs.Cutting.{built_some, built_linked, graph_cut, fits_cut, cut_linked, cut_some, cut_few}
use Rattle.lrtable.proofs.pager.states.Goals as goal

pub prune-requires-clause-some : goal.prune-requires-clause-some
prune-requires-clause-some g c =
    let number = g.S.IndexStorage.number in
    let n = length-map c.in_ok-states.states.items (value_of number) in
    let lt = built_some c.args.grm.now.grammar c.start_prod.ensures.well_formed (map (value_of number) c.in_ok-states.states.items) c.in_ok-states.ensures.built in
    omega (arith, n, lt)

pub prune-requires-clause-linked : goal.prune-requires-clause-linked
prune-requires-clause-linked g c = built_linked c.args.grm.now.grammar c.start_prod.ensures.well_formed (map (value_of g.S.IndexStorage.number) c.in_ok-states.states.items) c.in_ok-states.ensures.built

pub returns-clause-graph : goal.returns-clause-graph
returns-clause-graph g c =
    let number = g.S.IndexStorage.number in
    graph_cut c.args.grm.now.grammar c.start_prod.ensures.well_formed (map (value_of number) c.in_ok-states.states.items) c.in_ok-states.ensures.built (map (value_of number) c.in_ok-kept.kept.items) c.in_ok-kept.ensures

pub returns-clause-linked : goal.returns-clause-linked
returns-clause-linked g c =
    let number = g.S.IndexStorage.number in
    let states = map (value_of number) c.in_ok-states.states.items in
    cut_linked states (map (value_of number) c.in_ok-kept.kept.items) (built_linked c.args.grm.now.grammar c.start_prod.ensures.well_formed states c.in_ok-states.ensures.built) c.in_ok-kept.ensures

pub returns-clause-cores : goal.returns-clause-cores
returns-clause-cores g c = λ s lt.
    let number = g.S.IndexStorage.number in
    let n = length-map c.in_ok-kept.kept.items (value_of number) in
    fits_cut c.args.grm.now.grammar c.start_prod.ensures.well_formed (map (value_of number) c.in_ok-states.states.items) c.in_ok-states.ensures.built (map (value_of number) c.in_ok-kept.kept.items) c.in_ok-kept.ensures s (omega (arith, n, lt))

pub returns-clause-some : goal.returns-clause-some
returns-clause-some g c =
    let number = g.S.IndexStorage.number in
    let states = map (value_of number) c.in_ok-states.states.items in
    let n = length-map c.in_ok-kept.kept.items (value_of number) in
    let lt = cut_some states (map (value_of number) c.in_ok-kept.kept.items) (built_linked c.args.grm.now.grammar c.start_prod.ensures.well_formed states c.in_ok-states.ensures.built) c.in_ok-kept.ensures in
    omega (arith, n, lt)

pub returns-clause-few : goal.returns-clause-few
returns-clause-few g c =
    let number = g.S.IndexStorage.number in
    let states = map (value_of number) c.in_ok-states.states.items in
    let n = length-map c.in_ok-kept.kept.items (value_of number) in
    let m = length-map c.in_ok-states.states.items (value_of number) in
    let few = c.in_ok-states.ensures.few in
    let le = cut_few states (map (value_of number) c.in_ok-kept.kept.items) (built_linked c.args.grm.now.grammar c.start_prod.ensures.well_formed states c.in_ok-states.ensures.built) c.in_ok-kept.ensures in
    omega (arith, n, m, few, le)
