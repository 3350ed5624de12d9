use Rattle.std.proofs.Common.{◌≡◌, [], sym, subst, arith, rules}
use Rattle.std.proofs.lemmas.List.{length-map}
use Rattle.state_table.specs.OwnSets.{HaveOwn}
use Rattle.state_table.specs.CoreViews.{item_of, items_of}
use Rattle.state_table.specs.declared.shared_sets.SharedItem.{SharedItem}
use Rattle.state_table.proofs.CoreSteps.{map_at}
use Rattle.state_table.proofs.OwnSets.{own_none, own_next}
use Rattle.state_table.proofs.shared_sets.each_own.Goals as goal

pub items-init : goal.items-init
items-init g c =
    let number = g.S.IndexStorage.number in
    let none : c.in_ok-entries.entries.items ≡ [] = search rules in
    subst (HaveOwn number (items_of number c.args.items.now) 0) (sym none) (own_none number (items_of number c.args.items.now))

pub items-preserved : goal.items-preserved
items-preserved g c =
    let number = g.S.IndexStorage.number in
    let xs = c.args.items.now in
    let k = c.items.set in
    let x = c.index-items-set.result in
    let e : SharedItem g.row.S.Denot = record { item = x; set = c.of.result } in
    let test = c.items-test.true in
    let n = length-map xs (item_of number) in
    own_next number (items_of number xs) k c.items.entries.items c.push.new.self.items e c.items.invariant (omega (arith, test, n)) c.of.ensures (λ d. map_at (item_of number) xs k x d (omega (arith, test)) c.index-items-set.is) c.in_ok-push.ensures.items
