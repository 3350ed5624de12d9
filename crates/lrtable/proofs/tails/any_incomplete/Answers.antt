use Rattle.std.proofs.Common.{◌<◌, ℕ, List, length, get_or, map, sym, ap, ◌∙◌, subst, arith, below_more}
use Rattle.std.proofs.lemmas.List.{length-map, get_or-map}
use Rattle.cfg_theory.specs.Grammar.{Sym, IsNext}
use Rattle.state_table.specs.CoreViews.{item_of, items_of}
use Rattle.state_table.specs.ItemRows.{Item}
use Rattle.state_table.proofs.CoreSteps.{map_at}
use Rattle.state_table.proofs.ItemSets.{nought}
use Rattle.lrtable.proofs.tails.any_incomplete.Goals as goal

pub is_incomplete-requires : goal.is_incomplete-requires
is_incomplete-requires g c =
    let number = g.S.IndexStorage.number in
    let xs = c.args.items.now in
    let lt = c.items-test.true in
    let at = map_at (item_of number) xs c.items.k c.index-items-k.result nought lt c.index-items-k.is in
    subst (λ (i : Item). i.production < length c.args.grm.now.grammar.productions) at (c.requires c.items.k nought lt)

pub items-preserved : goal.items-preserved
items-preserved g c =
    let number = g.S.IndexStorage.number in
    let xs = c.args.items.now in
    let lt = c.items-test.true in
    below_more (λ k. (d : Item) (X : Sym) → IsNext c.args.grm.now.grammar (get_or (items_of number xs) k d).production (get_or (items_of number xs) k d).dot X → ⊥) c.items.k c.items.invariant
    (λ d X n.
    let at = map_at (item_of number) xs c.items.k c.index-items-k.result d lt c.index-items-k.is in
    c.is_incomplete.ensures c.if-is_incomplete.false X (subst (λ (i : Item). IsNext c.args.grm.now.grammar i.production i.dot X) at n))
