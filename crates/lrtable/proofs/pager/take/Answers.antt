use Rattle.std.proofs.Common.{List, false, map, set, ap, ◌∙◌, sym}
use Rattle.std.proofs.lemmas.List.{map-set}
use Rattle.lrtable.specs.States.{StateValue, no_state}
use Rattle.state_table.specs.CoreViews.{core_of_set}
use Rattle.lrtable.specs.StateViews.{EdgeTo, edges_of, value_of}
use Rattle.state_table.proofs.CoreSteps.{map_at}
use Rattle.lrtable.proofs.pager.take.Goals as goal

pub returns : goal.returns
returns g c =
    let number = g.S.IndexStorage.number in
    let x = c.index_mut-state.result.now in
    let values = map (value_of number) c.args.states.now.items in
    let at = map_at (value_of number) c.args.states.now.items c.args.number x no_state c.requires c.index_mut-state.ensures.value in
    map-set (value_of number) c.args.states.now.items c.args.number _
    ∙ (ap (λ (l : List (EdgeTo g.row.S.Denot)). set values c.args.number (record { core = core_of_set number x.core; edges = edges_of number l; todo = false })) c.reserve_exact.ensures.items
    ∙ ap (λ (v : StateValue). set values c.args.number (record { core = v.core; edges = v.edges; todo = false })) (sym at))
