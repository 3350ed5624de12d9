use Rattle.std.proofs.Common.{◌≡◌, ◌<◌, ℕ, false, true, length, get_or, refl, ap, ◌∙◌, subst, rules}
use Rattle.std.specs.Vec.{with_item}
use Rattle.vob.proofs.Bits.{join}
use Rattle.state_table.specs.ItemRows.{Item}
use Rattle.state_table.specs.declared.shared_sets.SharedItem.{SharedItem}
use Rattle.state_table.specs.declared.shared_sets.SharedSets.{SharedSets}
use Rattle.state_table.proofs.Sharing.{there_lt, there_width, held_takes, held_old, lacked_new, grown_takes, same_read}
use Rattle.state_table.proofs.shared_sets.SharedSets.grow.Goals as goal

differ : false ≡ true → ⊥
differ e = cc

pub holds-requires : goal.holds-requires
holds-requires g c =
    let number = g.S.IndexStorage.number in
    let s = c.args.self.now in
    let found = subst (λ (n : ℕ). c.index-2.result.now ≡ get_or s.sets.items n c.index-2.result.now) c.get-number.ensures c.index-2.ensures in
    let i : Item = record { production = number c.args.item.pidx.0; dot = number c.args.item.dot.0 } in
    there_width number s.entries.items s.sets.items c.args.index i c.args.looks.now.bits c.requires.core c.requires.within c.requires.here c.index.result.now c.index.ensures c.index-2.result.now found

pub returns-then-holds-clause-added : goal.returns-then-holds-clause-added
returns-then-holds-clause-added g c =
    let number = g.S.IndexStorage.number in
    let s = c.args.self.now in
    let found = subst (λ (n : ℕ). c.index-2.result.now ≡ get_or s.sets.items n c.index-2.result.now) c.get-number.ensures c.index-2.ensures in
    held_takes number s c.args.index (number c.args.item.pidx.0) (number c.args.item.dot.0) c.args.looks.now.bits c.index.result.now c.index-2.result.now c.requires.core c.requires.within c.requires.here c.index.ensures found
    (c.holds.ensures.holds.0 c.if-holds.true)

pub returns-then-holds-clause-grew : goal.returns-then-holds-clause-grew
returns-then-holds-clause-grew g c =
    let number = g.S.IndexStorage.number in
    let s = c.args.self.now in
    let found = subst (λ (n : ℕ). c.index-2.result.now ≡ get_or s.sets.items n c.index-2.result.now) c.get-number.ensures c.index-2.ensures in
    let i : Item = record { production = number c.args.item.pidx.0; dot = number c.args.item.dot.0 } in
    (λ e. absurd (differ e), λ h. absurd (held_old number s.entries.items s.sets.items c.args.index i c.args.looks.now.bits c.requires.core c.requires.within c.requires.here c.index.result.now c.index.ensures c.index-2.result.now found (c.holds.ensures.holds.0 c.if-holds.true) h))

pub or-requires : goal.or-requires
or-requires g c =
    let number = g.S.IndexStorage.number in
    let s = c.args.self.now in
    let found = subst (λ (n : ℕ). c.index-3.result.now ≡ get_or s.sets.items n c.index-3.result.now) c.get-number.ensures c.index-3.ensures in
    let i : Item = record { production = number c.args.item.pidx.0; dot = number c.args.item.dot.0 } in
    ap length c.in_ok-joined.ensures.cases ∙ there_width number s.entries.items s.sets.items c.args.index i c.args.looks.now.bits c.requires.core c.requires.within c.requires.here c.index.result.now c.index.ensures c.index-3.result.now found

pub returns-clause-added : goal.returns-clause-added
returns-clause-added g c =
    let number = g.S.IndexStorage.number in
    let old = c.args.self.now in
    let found = subst (λ (n : ℕ). c.index-3.result.now ≡ get_or old.sets.items n c.index-3.result.now) c.get-number.ensures c.index-3.ensures in
    let bits = c.args.looks.now.bits in
    let k = c.args.index in
    let x = c.index.result.now in
    let v = c.index-3.result.now in
    let i : Item = record { production = number c.args.item.pidx.0; dot = number c.args.item.dot.0 } in
    let y : SharedItem g.row.S.Denot = record { item = c.index_mut-entry.result.now.item; set = c.of-entry.result } in
    let lt : k < length old.entries.items = there_lt number old.entries.items old.sets.items k i bits c.requires.core c.requires.within c.requires.here x c.index.ensures v found in
    let item = ap (λ (z : SharedItem g.row.S.Denot). z.item) (same_read old.entries.items k c.index_mut-entry.result.now x lt c.index_mut-entry.ensures.value c.index.ensures) in
    let new : SharedSets g.row.S.Denot = record { entries = with_item old.entries k y; sets = c.push.new.self } in
    let last : c.len-set.result ≡ length old.sets.items = search rules in
    grown_takes number old new k i.production i.dot bits x v c.or.new.self c.len-set.result c.requires.core c.requires.within c.requires.here c.index.ensures found (c.or.ensures.bits ∙ ap (λ b. join b bits) c.in_ok-joined.ensures.cases) last y item c.of-entry.ensures refl c.in_ok-push.ensures.items

pub returns-clause-grew : goal.returns-clause-grew
returns-clause-grew g c =
    let number = g.S.IndexStorage.number in
    let s = c.args.self.now in
    let found = subst (λ (n : ℕ). c.index-2.result.now ≡ get_or s.sets.items n c.index-2.result.now) c.get-number.ensures c.index-2.ensures in
    let i : Item = record { production = number c.args.item.pidx.0; dot = number c.args.item.dot.0 } in
    (λ _. lacked_new number s.entries.items s.sets.items c.args.index i c.args.looks.now.bits c.requires.core c.requires.within c.requires.here c.index.result.now c.index.ensures c.index-2.result.now found (c.holds.ensures.lacks c.if-holds.false), λ _. refl)
