use Rattle.std.proofs.Common.{◌≡◌, ◌≢◌, ◌++◌, ◌∷◌, ℕ, [], set, refl, subst₂}
use Rattle.std.specs.declared.alloc.Global.{Global}
use Rattle.std.specs.declared.vec.Vec.{Vec}
use Rattle.std.specs.Vec.{with_item}
use Rattle.lrtable.specs.States.{list_at}
use Rattle.lrtable.specs.StateViews.{lists_of, numbers_of}
use Rattle.lrtable.specs.declared.state_lists.Numbers.{Numbers}
use Rattle.state_table.specs.ItemRows.{Item}
use Rattle.lrtable.proofs.Buckets.{put_own, put_others}
use Rattle.lrtable.proofs.state_lists.put_number.Goals as goal

pub returns-clause-own : goal.returns-clause-own
returns-clause-own g c =
    let old = c.args.lists.now.items in
    let mid = c.make_room.new.lists.items in
    let p = c.to_usize-pidx.result in
    let d = c.to_usize-dot.result in
    let last = with_item c.make_numbers.new.lists d c.push.new.self in
    let own = put_own numbers_of (λ (v : Vec Numbers Global). v.items) old mid p d c.args.number c.index_mut-by_dot.result.now c.make_numbers.new.lists last c.index_mut-list.result.now c.push.new.self
    c.in_ok-make_room.ensures.same c.in_ok-make_room.ensures.within c.index_mut-by_dot.ensures.value c.in_ok-make_numbers.ensures.same c.in_ok-make_numbers.ensures.within c.index_mut-list.ensures.value c.in_ok-push.ensures refl in
    subst₂ (λ m k. list_at (lists_of (set mid p last)) (record { production = m; dot = k }) ≡ list_at (lists_of old) (record { production = m; dot = k }) ++ c.args.number ∷ []) c.to_usize-pidx.ensures.value c.to_usize-dot.ensures.value own

pub returns-clause-others : goal.returns-clause-others
returns-clause-others g c =
    let old = c.args.lists.now.items in
    let mid = c.make_room.new.lists.items in
    let p = c.to_usize-pidx.result in
    let d = c.to_usize-dot.result in
    let last = with_item c.make_numbers.new.lists d c.push.new.self in
    let others = put_others numbers_of (λ (v : Vec Numbers Global). v.items) old mid p d c.args.number c.index_mut-by_dot.result.now c.make_numbers.new.lists last c.index_mut-list.result.now c.push.new.self
    c.in_ok-make_room.ensures.same c.in_ok-make_room.ensures.within c.index_mut-by_dot.ensures.value c.in_ok-make_numbers.ensures.same c.in_ok-make_numbers.ensures.within c.index_mut-list.ensures.value c.in_ok-push.ensures refl in
    subst₂ (λ m k. (j : Item) → j ≢ record { production = m; dot = k } → list_at (lists_of (set mid p last)) j ≡ list_at (lists_of old) j) c.to_usize-pidx.ensures.value c.to_usize-dot.ensures.value others
