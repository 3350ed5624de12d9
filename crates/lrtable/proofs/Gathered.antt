-- The goto set of an edge, put together of the items of the state that the edge leads to.
use Rattle.std.proofs.Common.{◌≡◌, ℕ, ◌<◌, List, length, get_or, map, sym, ap, ◌∙◌}
use Rattle.std.proofs.lemmas.List.{length-map}
use Rattle.cfg_theory.specs.Grammar.{Grammar}
use Rattle.lrtable.specs.LookRows.{LookRows}
use Rattle.lrtable.specs.MovedItems.{core_of_moved, moved_items, rows_from}
use Rattle.lrtable.specs.States.{StateValue, no_state, state_at}
use Rattle.lrtable.specs.StateViews.{value_of}
use Rattle.lrtable.specs.Revisits.{AreRowsBehind}
use Rattle.lrtable.specs.declared.moved_items.MovedItem.{MovedItem}
use Rattle.lrtable.specs.declared.states.State.{State}
use Rattle.state_table.specs.CoreViews.{item_of, items_of}
use Rattle.state_table.specs.ItemRows.{Core, IsCoreOf}
use Rattle.state_table.specs.declared.cores.CoreItem.{CoreItem}
use Rattle.state_table.proofs.CoreSteps.{map_at}
use Rattle.lrtable.proofs.Revisits.{same_behind, set_is_core}

-- it has the items of the state, and the rows behind them
pub record IsGathered (G : Grammar) (c led given : Core) : Type 0 where
  pub same : given.items ≡ led.items
  pub behind : AreRowsBehind G c given.items (length given.items) given.rows
  pub core : IsCoreOf G.tokens given

pub gathered_set : {S : Type 0} (number : S → ℕ) (G : Grammar) (own : Core) (rows : LookRows) (states : List (State S)) (t : ℕ) (x : State S) (from : List (CoreItem S)) (set slice : List (MovedItem S)) → t < length states → x ≡ get_or states t x → from ≡ x.core.items.items →
    moved_items number set ≡ items_of number from → AreRowsBehind G own (items_of number from) (length from) (rows_from rows set) → slice ≡ set → IsCoreOf G.tokens (state_at (map (value_of number) states) t).core →
    IsGathered G own (state_at (map (value_of number) states) t).core (core_of_moved number rows slice)
gathered_set number G own rows states t x from set slice lt at is items behind e good =
    let led = (state_at (map (value_of number) states) t).core in
    let given = core_of_moved number rows slice in
    let first = ap (moved_items number) e ∙ items in
    let same : given.items ≡ led.items = first ∙ (ap (items_of number) is ∙ sym (ap (λ (v : StateValue). v.core.items) (map_at (value_of number) states t x no_state lt at))) in
    let after = same_behind G own (items_of number from) given.items (length from) (rows_from rows set) given.rows first (length-map from (item_of number)) (ap (rows_from rows) e) behind in
    record { same = same; behind = after; core = set_is_core G own led given good same after }
