use Rattle.std.proofs.Common.{◌≡◌, ◌<◌, ◌++◌, ◌∷◌, ◌∙◌, ℕ, [], List, length, ap, subst, arith, rules}
use Rattle.std.proofs.lemmas.List.{length-map}
use Rattle.vob.specs.Packed.{Contents}
use Rattle.state_table.specs.Meeting.{rows_in}
use Rattle.state_table.specs.CoreViews.{item_of, core_of_set}
use Rattle.state_table.specs.declared.shared_sets.SharedItem.{SharedItem}
use Rattle.state_table.proofs.CoreSteps.{map_at, row_at}
use Rattle.state_table.proofs.Sharing.{copy_next}
use Rattle.state_table.proofs.shared_sets.SharedSets.of_core.Goals as goal

pub items-preserved : goal.items-preserved
items-preserved g c =
    let number = g.S.IndexStorage.number in
    let core = c.args.core.now in
    let k = c.items.k in
    let e : SharedItem g.row.S.Denot = record { item = c.index-item.result.now; set = c.in_ok-set.set } in
    let test = c.items-test.true in
    let count = c.requires in
    let len : c.len-k-end.result ≡ length core.items.items = search rules in
    let lt : k < length core.items.items = omega (arith, test, len) in
    let n = length-map core.items.items (item_of number) in
    let m = length-map core.looks.items (λ (v : Contents). v.bits) in
    let s = c.in_ok-set.ensures in
    let pushed = subst (λ (n : ℕ). c.push.new.self.items ≡ c.own_set.new.self.entries.items ++ record { item = c.index-item.result.now; set = n } ∷ []) c.of.ensures c.in_ok-push.ensures.items in
    copy_next number (core_of_set number core) k c.items.shared.entries.items _ (rows_in c.items.shared.sets.items) (rows_in c.own_set.new.self.sets.items) e c.index.result.now.bits c.items.invariant (omega (arith, lt, n)) (omega (arith, lt, m, count))
    s.sets s.within s.like
    (λ d. map_at (item_of number) core.items.items k c.index-item.result.now d lt c.index-item.ensures)
    (row_at core.looks.items k c.index.result.now (omega (arith, lt, count)) c.index.ensures) (pushed ∙ ap (λ (l : List (SharedItem g.row.S.Denot)). l ++ e ∷ []) s.entries)
