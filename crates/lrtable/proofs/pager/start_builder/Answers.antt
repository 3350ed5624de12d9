use Rattle.std.proofs.Common.{◌≡◌, ◌≢◌, ◌++◌, ◌∷◌, [], length, map, sym, ap, ◌∙◌, subst, arith}
use Rattle.std.proofs.lemmas.List.{length-map}
use Rattle.state_table.specs.CoreViews.{item_of}
use Rattle.state_table.specs.ItemRows.{Item}
use Rattle.lrtable.specs.States.{StateValue, no_state, state_at, first_item, list_at}
use Rattle.lrtable.specs.StateViews.{lists_of, value_of}
use Rattle.state_table.proofs.CoreSteps.{map_at}
use Rattle.lrtable.proofs.Buckets.{first_is}
use Rattle.lrtable.proofs.Starting.{start_buckets}
use Rattle.lrtable.proofs.pager.start_builder.Goals as goal

pub returns : goal.returns
returns g c =
    let number = g.S.IndexStorage.number in
    let states = map (value_of number) c.in_ok-states.states.items in
    let n = length-map c.in_ok-states.states.items (value_of number) in
    let one = c.in_ok-states.ensures.one in
    let bound = c.to_usize.ensures.bound in
    let count = c.to_usize.ensures.value ∙ c.prods_len.ensures in
    let lt = c.start_prod.ensures.well_formed.start_of.in_range in
    let st = c.index.result.now in
    let at : state_at states 0 ≡ value_of number st = map_at (value_of number) c.in_ok-states.states.items 0 st no_state (omega (arith, one)) c.index.ensures in
    let k = length-map st.core.items.items (item_of number) in
    let same = ap (λ (v : StateValue). length v.core.items) at in
    let some = c.in_ok-states.ensures.some in
    let first : item_of number c.index-2.result.now ≡ first_item (state_at states 0).core.items = first_is (item_of number) st.core.items.items c.index-2.result.now (omega (arith, k, same, some)) c.index-2.ensures ∙ ap (λ (v : StateValue). first_item v.core.items) (sym at) in
    let all = lists_of c.put_number.new.lists.items in
    let none = c.in_ok-begins.ensures.items in
    let put = c.in_ok-put_number.ensures in
    let own = subst (λ i. list_at all i ≡ list_at (lists_of c.in_ok-begins.begins.items) i ++ 0 ∷ []) first put.own ∙ ap (λ l. list_at (lists_of l) (first_item (state_at states 0).core.items) ++ 0 ∷ []) none in
    let others : (j : Item) → j ≢ first_item (state_at states 0).core.items → list_at all j ≡ [] = λ j ne. subst (λ (i : Item). (h : Item) → h ≢ i → list_at all h ≡ list_at (lists_of c.in_ok-begins.begins.items) h) first put.others j ne ∙ ap (λ l. list_at (lists_of l) j) none in
    record {
      builder = record {
        from = omega (arith, one);
        cursor = omega arith;
        buckets = start_buckets states all (omega (arith, n, one)) own others;
        few = omega (arith, one, bound, count, lt);
      };
      reached = c.in_ok-states.ensures.reached;
      quiet = λ r below. absurd (omega (arith, below));
    }
