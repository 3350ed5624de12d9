use Rattle.std.proofs.Common.{◌≡◌, ℕ, List, get_or, refl, sym, subst}
use Rattle.state_table.specs.ItemRows.{IsAt}
use Rattle.state_table.specs.Sharing.{keys_of, shared_map}
use Rattle.state_table.specs.CoreViews.{item_of}
use Rattle.state_table.specs.declared.shared_sets.SharedItem.{SharedItem}
use Rattle.state_table.proofs.Reading.{shared_at, shared_none}
use Rattle.state_table.proofs.Sharing.{belongs}
use Rattle.state_table.proofs.shared_sets.SharedSets.get.Goals as goal

pub returns-then-not-is_at : goal.returns-then-not-is_at
returns-then-not-is_at g c =
    let number = g.S.IndexStorage.number in
    let s = c.args.self.now in
    let at = belongs (λ (e : SharedItem g.row.S.Denot). item_of number e.item) s.entries.items c.as_slice.result.now c.as_slice-2.result.now c.index_in-index.result (item_of number c.args.item.now) c.requires.ascends
    c.as_slice.ensures.value c.as_slice-2.ensures.value c.index_in-index.ensures.within c.index_in-index.ensures.below c.index_in-index.ensures.above (c.is_at.ensures.other c.if-not-is_at.true) in
    sym (shared_none number s (shared_map number s) refl c.index_in-index.result (item_of number c.args.item.now) at)

pub returns : goal.returns
returns g c =
    let number = g.S.IndexStorage.number in
    let s = c.args.self.now in
    let found = subst (λ (n : ℕ). c.index-2.result.now ≡ get_or s.sets.items n c.index-2.result.now) c.get.ensures c.index-2.ensures in
    sym (shared_at number s (shared_map number s) refl c.requires c.index_in-index.result (number c.args.item.now.pidx.0) (number c.args.item.now.dot.0) c.index.result.now c.index-2.result.now (subst (λ (l : List (SharedItem g.row.S.Denot)). IsAt (keys_of number l) c.index_in-index.result (number c.args.item.now.pidx.0) (number c.args.item.now.dot.0)) c.as_slice-2.ensures.value (c.is_at.ensures.here c.if-not-is_at.false)) c.index.ensures found)
