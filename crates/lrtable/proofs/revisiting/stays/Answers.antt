use Rattle.std.proofs.Common.{◌≡◌, ℕ, List, length, get_or, map, sym, ap, ◌∙◌, subst, arith}
use Rattle.std.proofs.lemmas.List.{length-map}
use Rattle.lrtable.specs.States.{StateValue, no_state, state_at, ListsCore, first_item, list_at}
use Rattle.state_table.specs.CoreViews.{item_of}
use Rattle.lrtable.specs.StateViews.{lists_of, value_of}
use Rattle.lrtable.specs.Revisits.{core_noted, AreMoved}
use Rattle.lrtable.proofs.Buckets.{lists_core, first_is}
use Rattle.state_table.proofs.CoreSteps.{map_at}
use Rattle.lrtable.proofs.revisiting.stays.Goals as goal

pub are_held-requires-clause-moved : goal.are_held-requires-clause-moved
are_held-requires-clause-moved g c =
    let number = g.S.IndexStorage.number in
    let low = c.requires.target in
    let is = c.index-states-target.is in
    let at = map_at (value_of number) c.args.states.now c.args.target c.index-states-target.result no_state low is ∙ ap (value_of number) is in
    subst (λ (v : StateValue). AreMoved c.args.grm.now.grammar (core_noted number c.args.was.now c.args.rows.now) v.core.items) at c.requires.moved

pub is_first-requires-clause-bucket : goal.is_first-requires-clause-bucket
is_first-requires-clause-bucket g c =
    let number = g.S.IndexStorage.number in
    let states = map (value_of number) c.args.states.now in
    let items = (state_at states c.args.target).core.items in
    let low = c.requires.target in
    let is = c.index-states-target.is in
    let at = map_at (value_of number) c.args.states.now c.args.target c.index-states-target.result no_state low is ∙ ap (value_of number) is in
    let xs = (get_or c.args.states.now c.args.target c.index-states-target.result).core.items.items in
    let same = ap (λ (v : StateValue). length v.core.items) at in
    let n = length-map xs (item_of number) in
    let some = c.requires.some in
    let first : item_of number c.index.result.now ≡ first_item items = first_is (item_of number) xs c.index.result.now (omega (arith, same, n, some)) c.index.ensures ∙ ap (λ (v : StateValue). first_item v.core.items) (sym at) in
    let lists = lists_of c.args.begins.now in
    subst (λ (l : List ℕ). ListsCore states items l) (sym (c.numbers_at.ensures ∙ ap (list_at lists) first)) (lists_core states lists items c.requires.buckets)
