use Rattle.std.proofs.Common.{List, false, map, set, ap, ◌∙◌, sym}
use Rattle.std.proofs.lemmas.List.{map-set}
use Rattle.lrtable.specs.States.{StateValue, no_state}
use Rattle.lrtable.specs.StateViews.{value_of}
use Rattle.state_table.proofs.CoreSteps.{map_at}
use Rattle.lrtable.proofs.pager.mark_taken.Goals as goal

pub returns : goal.returns
returns g c =
    let number = g.S.IndexStorage.number in
    let x = c.index_mut-taken.result.now in
    let values = map (value_of number) c.args.states.now.items in
    let at = map_at (value_of number) c.args.states.now.items c.args.number x no_state c.requires c.index_mut-taken.ensures.value in
    map-set (value_of number) c.args.states.now.items c.args.number _
    ∙ ap (λ (v : StateValue). set values c.args.number (record { core = v.core; edges = v.edges; todo = false })) (sym at)
