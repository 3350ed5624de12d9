use Rattle.std.proofs.Common.{◌≡◌, ◌<◌, ℕ, length, get_or, sym, ap, ◌∙◌, subst, arith, rules}
use Rattle.lr_theory.specs.Itemset.{Entry}
use Rattle.state_table.proofs.CoreSteps.{row_at}
use Rattle.state_table.proofs.Reading.{shared_length, shared_entry, shared_in}
use Rattle.state_table.proofs.itemset.Itemset.looks_at.Goals as goal

pub index-entry-requires : goal.index-entry-requires
index-entry-requires g c =
    let n = shared_length g.S.IndexStorage.number c.self.inside.set c.args.self.now c.self.view_is in
    let r = c.requires in
    let lt : c.args.index < length c.self.inside.set.entries.items = omega (arith, n, r) in
    search rules

pub index-requires : goal.index-requires
index-requires g c =
    let number = g.S.IndexStorage.number in
    let n = shared_length number c.self.inside.set c.args.self.now c.self.view_is in
    let r = c.requires in
    let at = c.get.ensures in
    let within : c.index-entry.result.now.set < length c.self.inside.set.sets.items = shared_in number c.self.inside.set c.self.invariant c.args.index c.index-entry.result.now (omega (arith, n, r)) c.index-entry.ensures in
    let lt : c.get.result < length c.self.inside.set.sets.items = omega (arith, within, at) in
    search rules

pub returns : goal.returns
returns g c = λ e.
    let number = g.S.IndexStorage.number in
    let s = c.self.inside.set in
    let n = shared_length number s c.args.self.now c.self.view_is in
    let r = c.requires in
    let x = c.index-entry.result.now in
    let lt : c.args.index < length s.entries.items = omega (arith, n, r) in
    let found = subst (λ (n : ℕ). c.index.result.now ≡ get_or s.sets.items n c.index.result.now) c.get.ensures c.index.ensures in
    sym (ap (λ (x : Entry). x.lookaheads) (shared_entry number s c.args.self.now c.self.view_is c.args.index x e lt c.index-entry.ensures) ∙ row_at s.sets.items x.set c.index.result.now (shared_in number s c.self.invariant c.args.index x lt c.index-entry.ensures) found)
