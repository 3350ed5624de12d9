use Rattle.std.proofs.Common.{List, map, sym, ap, ◌∙◌, subst, length-set, get_or-set_other}
use Rattle.std.specs.List.{Contains}
use Rattle.std.proofs.lemmas.List.{map-set}
use Rattle.lrtable.specs.Pruning.{renumbered_state}
use Rattle.lrtable.specs.States.{Edge, StateValue, no_state, state_at}
use Rattle.lrtable.specs.StateViews.{value_of}
use Rattle.state_table.specs.CoreViews.{core_of_set}
use Rattle.state_table.proofs.CoreSteps.{map_at}
use Rattle.lrtable.proofs.pruning.take_out.Goals as goal

pub renumber-requires-clause-targets : goal.renumber-requires-clause-targets
renumber-requires-clause-targets g c =
    let number = g.S.IndexStorage.number in
    let at = map_at (value_of number) c.args.states.now.items c.args.number c.index_mut.result.now no_state c.requires.number c.index_mut.ensures.value ∙ ap (value_of number) (sym c.replace-state.ensures.value) in
    λ e x. c.requires.targets e (subst (λ (s : StateValue). Contains s.edges e) (sym at) x)

pub returns-clause-state : goal.returns-clause-state
returns-clause-state g c =
    let number = g.S.IndexStorage.number in
    let at = map_at (value_of number) c.args.states.now.items c.args.number c.index_mut.result.now no_state c.requires.number c.index_mut.ensures.value ∙ ap (value_of number) (sym c.replace-state.ensures.value) in
    ap (λ (es : List Edge). record { core = core_of_set number c.replace-state.result.core; edges = es; todo = c.replace-state.result.todo }) c.renumber.ensures ∙ ap (λ (s : StateValue). renumbered_state c.args.numbers.now s) (sym at)

pub returns-clause-left : goal.returns-clause-left
returns-clause-left g c = λ r ne.
    let number = g.S.IndexStorage.number in
    let states = c.args.states.now.items in
    ap (λ (l : List StateValue). state_at l r) (map-set (value_of number) states c.args.number c.replace-state.new.dest) ∙ get_or-set_other (map (value_of number) states) c.args.number r (value_of number c.replace-state.new.dest) no_state ne

pub returns-clause-count : goal.returns-clause-count
returns-clause-count g c = length-set c.args.states.now.items c.args.number c.replace-state.new.dest
