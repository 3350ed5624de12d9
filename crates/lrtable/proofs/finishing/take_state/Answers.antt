use Rattle.std.proofs.Common.{List, map, sym, ap, ◌∙◌, length-set, get_or-set_other}
use Rattle.std.proofs.lemmas.List.{map-set}
use Rattle.lrtable.specs.States.{StateValue, no_state, state_at}
use Rattle.lrtable.specs.StateViews.{value_of}
use Rattle.state_table.proofs.CoreSteps.{map_at}
use Rattle.lrtable.proofs.finishing.take_state.Goals as goal

pub returns-clause-state : goal.returns-clause-state
returns-clause-state g c =
    let number = g.S.IndexStorage.number in
    sym (map_at (value_of number) c.args.states.now.items c.args.number c.index_mut.result.now no_state c.requires c.index_mut.ensures.value ∙ ap (value_of number) (sym c.replace.ensures.value))

pub returns-clause-left : goal.returns-clause-left
returns-clause-left g c = λ r ne.
    let number = g.S.IndexStorage.number in
    let states = c.args.states.now.items in
    ap (λ (l : List StateValue). state_at l r) (map-set (value_of number) states c.args.number c.replace.new.dest) ∙ get_or-set_other (map (value_of number) states) c.args.number r (value_of number c.replace.new.dest) no_state ne

pub returns-clause-count : goal.returns-clause-count
returns-clause-count g c = length-set c.args.states.now.items c.args.number c.replace.new.dest
