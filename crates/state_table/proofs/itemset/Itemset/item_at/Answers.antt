use Rattle.std.proofs.Common.{◌<◌, length, sym, ap, arith, rules}
use Rattle.lr_theory.specs.Itemset.{Entry}
use Rattle.state_table.proofs.Reading.{shared_length, shared_entry}
use Rattle.state_table.proofs.itemset.Itemset.item_at.Goals as goal

pub index-entry-requires : goal.index-entry-requires
index-entry-requires g c =
    let n = shared_length g.S.IndexStorage.number c.self.inside.set c.args.self.now c.self.view_is in
    let r = c.requires in
    let lt : c.args.index < length c.self.inside.set.entries.items = omega (arith, n, r) in
    search rules

pub returns-clause-production : goal.returns-clause-production
returns-clause-production g c = λ e.
    let number = g.S.IndexStorage.number in
    let n = shared_length number c.self.inside.set c.args.self.now c.self.view_is in
    let r = c.requires in
    ap (λ (x : Entry). x.production) (sym (shared_entry number c.self.inside.set c.args.self.now c.self.view_is c.args.index c.index-entry.result.now e (omega (arith, n, r)) c.index-entry.ensures))

pub returns-clause-dot : goal.returns-clause-dot
returns-clause-dot g c = λ e.
    let number = g.S.IndexStorage.number in
    let n = shared_length number c.self.inside.set c.args.self.now c.self.view_is in
    let r = c.requires in
    ap (λ (x : Entry). x.dot) (sym (shared_entry number c.self.inside.set c.args.self.now c.self.view_is c.args.index c.index-entry.result.now e (omega (arith, n, r)) c.index-entry.ensures))
