use Rattle.std.proofs.Common.{◌+◌, ◌<◌, [], ◌∷◌, ◌++◌, length, take, sym, ap, ◌∙◌, subst, arith}
use Rattle.std.proofs.lemmas.List.{length-map, map_push, take_more}
use Rattle.lrtable.specs.MovedItems.{moved_item, moved_items, row_from, rows_from}
use Rattle.state_table.specs.CoreViews.{item_of, items_of}
use Rattle.lrtable.specs.Revisits.{core_noted, IsMoved, AreRowsBehind}
use Rattle.lrtable.specs.declared.moved_items.MovedItem.{MovedItem}
use Rattle.state_table.proofs.CoreSteps.{map_at}
use Rattle.state_table.proofs.ItemSets.{nought}
use Rattle.lrtable.proofs.Revisits.{behind_more}
use Rattle.lrtable.proofs.revisiting.goto_of_items.Goals as goal

pub source_behind-source-requires-clause-moved : goal.source_behind-source-requires-clause-moved
source_behind-source-requires-clause-moved g c =
    let number = g.S.IndexStorage.number in
    let xs = c.args.from.now in
    let n = length-map xs (item_of number) in
    let test = c.items-test.true in
    subst (IsMoved c.args.grm.now.grammar (core_noted number c.args.was.now c.args.rows.now)) (map_at (item_of number) xs c.items.k c.index-from-k.result nought (omega (arith, test)) c.index-from-k.is)
    (c.requires.moved c.items.k nought (omega (arith, test, n)))

pub items-preserved : goal.items-preserved
items-preserved g c =
    let number = g.S.IndexStorage.number in
    let G = c.args.grm.now.grammar in
    let own = core_noted number c.args.was.now c.args.rows.now in
    let xs = c.args.from.now in
    let n = length-map xs (item_of number) in
    let test = c.items-test.true in
    let x = c.index-from-k.result in
    let m : MovedItem g.row.S.Denot = record { item = x; source = c.source_behind-source.result } in
    let lt : c.items.k < length (items_of number xs) = omega (arith, test, n) in
    let at = map_at (item_of number) xs c.items.k x nought (omega (arith, test)) c.index-from-k.is in
    let own_at = map_at (item_of number) xs c.items.k x (item_of number x) (omega (arith, test)) c.index-from-k.is in
    record {
      within = omega (arith, test);
      items = ap (moved_items number) c.in_ok-push.ensures.items ∙ (map_push (moved_item number) c.items.set.items m ∙ (ap (λ l. l ++ item_of number x ∷ []) c.items.invariant.items ∙
          sym (take_more (items_of number xs) c.items.k nought lt ∙ ap (λ i. take c.items.k (items_of number xs) ++ i ∷ []) at)));
      rows = subst (AreRowsBehind G own (items_of number xs) (c.items.k + 1)) (sym (ap (rows_from c.args.rows.now) c.in_ok-push.ensures.items ∙ map_push (λ (y : MovedItem g.row.S.Denot). row_from c.args.rows.now y.source) c.items.set.items m))
          (behind_more G own (items_of number xs) c.items.k (item_of number x) (rows_from c.args.rows.now c.items.set.items) (row_from c.args.rows.now m.source) lt own_at c.source_behind-source.ensures c.items.invariant.rows);
    }
