use Rattle.state_table.specs.CoreViews.{item_of}
use Rattle.state_table.specs.declared.shared_sets.SharedItem.{SharedItem}
use Rattle.state_table.proofs.Sharing.{belongs}
use Rattle.state_table.proofs.shared_sets.SharedSets.add.Goals as goal

pub put-requires-clause-belongs : goal.put-requires-clause-belongs
put-requires-clause-belongs g c =
    let number = g.S.IndexStorage.number in
    belongs (λ (e : SharedItem g.row.S.Denot). item_of number e.item) c.args.self.now.entries.items c.as_slice.result.now c.as_slice-2.result.now c.index_in-index.result (item_of number c.args.item) c.requires.core.ascends
    c.as_slice.ensures.value c.as_slice-2.ensures.value c.index_in-index.ensures.within c.index_in-index.ensures.below c.index_in-index.ensures.above (c.is_at.ensures.other c.if-is_at.false)
