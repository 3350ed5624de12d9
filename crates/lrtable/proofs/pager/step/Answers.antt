use Rattle.std.proofs.Common.{◌<◌, ℕ, List, length, get_or, map, sym, ap, subst, arith, rules}
use Rattle.std.proofs.lemmas.List.{length-map}
use Rattle.lrtable.specs.States.{StateValue, no_state}
use Rattle.lrtable.specs.StateViews.{value_of, edge_of_pair}
use Rattle.lrtable.specs.Stepping.{HaveNoNext}
use Rattle.lrtable.proofs.Stepping.{reached_fits}
use Rattle.state_table.specs.CoreViews.{item_of, items_of}
use Rattle.state_table.specs.ItemRows.{Item, FitsCore}
use Rattle.state_table.specs.declared.cores.CoreItem.{CoreItem}
use Rattle.state_table.proofs.CoreSteps.{map_at}
use Rattle.lrtable.proofs.pager.step.Goals as goal

pub step_again-requires-clause-edges : goal.step_again-requires-clause-edges
step_again-requires-clause-edges g c =
    let number = g.S.IndexStorage.number in
    let low = c.requires.due.within in
    let at = ap (λ (v : StateValue). length v.edges) (map_at (value_of number) c.args.builder.now.states.items c.args.number c.index-state.result.now no_state low c.index-state.ensures) in
    let n = length-map c.index-state.result.now.edges.items (edge_of_pair number) in
    let some : 0 < length c.index-state.result.now.edges.items = search rules in
    omega (arith, at, n, some)

pub any_incomplete-requires : goal.any_incomplete-requires
any_incomplete-requires g c =
    let number = g.S.IndexStorage.number in
    let G = c.args.grm.now.grammar in
    let states = map (value_of number) c.args.builder.now.states.items in
    let n = length-map c.args.builder.now.states.items (value_of number) in
    let low = c.requires.due.within in
    let at = map_at (value_of number) c.args.builder.now.states.items c.args.number c.index-state.result.now no_state low c.index-state.ensures in
    let fits = subst (λ (v : StateValue). FitsCore G v.core) at (reached_fits G states c.start_prod.ensures.well_formed c.requires.builder.reached c.args.number (omega (arith, n, low))) in
    subst (λ (l : List (CoreItem g.row.S.Denot)). (k : ℕ) (d : Item) → k < length l → (get_or (items_of number l) k d).production < length G.productions) (sym c.as_slice.ensures.value)
    (λ k d lt. fits.productions k d (let m = length-map c.index-state.result.now.core.items.items (item_of number) in omega (arith, m, lt)))

pub step_complete-requires-clause-none : goal.step_complete-requires-clause-none
step_complete-requires-clause-none g c =
    let number = g.S.IndexStorage.number in
    let G = c.args.grm.now.grammar in
    let low = c.requires.due.within in
    let at = map_at (value_of number) c.args.builder.now.states.items c.args.number c.index-state.result.now no_state low c.index-state.ensures in
    let m = length-map c.index-state.result.now.core.items.items (item_of number) in
    let none = subst (λ (l : List (CoreItem g.row.S.Denot)). HaveNoNext G (items_of number l) (length l)) c.as_slice.ensures.value (c.any_incomplete.ensures c.if-any_incomplete.false) in
    subst (λ (v : StateValue). HaveNoNext G v.core.items (length v.core.items)) (sym at) (subst (λ k. HaveNoNext G (items_of number c.index-state.result.now.core.items.items) k) (sym m) none)
