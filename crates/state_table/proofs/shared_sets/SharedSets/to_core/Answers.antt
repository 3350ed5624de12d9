use Rattle.std.proofs.Common.{◌≡◌, ◌<◌, ℕ, length, get_or, subst, arith, rules}
use Rattle.state_table.proofs.Sharing.{there_copied}
use Rattle.state_table.proofs.shared_sets.SharedSets.to_core.Goals as goal

pub entries-preserved : goal.entries-preserved
entries-preserved g c =
    let number = g.S.IndexStorage.number in
    let s = c.args.self.now in
    let k = c.entries.k in
    let test = c.entries-test.true in
    let len : c.len-k-end.result ≡ length s.entries.items = search rules in
    let lt : k < length s.entries.items = omega (arith, test, len) in
    let found = subst (λ (n : ℕ). c.index.result.now ≡ get_or s.sets.items n c.index.result.now) c.get.ensures c.index.ensures in
    let h = there_copied number s k c.index-entry.result.now c.index.result.now c.in_ok-clone.field-0 c.entries.items.items c.push.new.self.items c.entries.looks.items c.push-in-entries.new.self.items c.requires lt c.index-entry.ensures found c.in_ok-clone.ensures.cases c.in_ok-push.ensures.items c.in_ok-push-2.ensures.items c.entries.invariant.items c.entries.invariant.rows in
    record { items = h.0; rows = h.1 }
