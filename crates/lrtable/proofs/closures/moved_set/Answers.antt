use Rattle.std.proofs.Common.{◌≡◌, ◌<◌, ℕ, length, get_or, sym, subst, arith, rules}
use Rattle.std.proofs.lemmas.List.{length-map}
use Rattle.cfg_numbered.specs.Symbols.{sym_of}
use Rattle.lr_theory.specs.Itemset.{Goto, GotoLook}
use Rattle.state_table.specs.Adding.{SingleItem, OneLooks}
use Rattle.state_table.specs.ItemRows.{Item, IsCoreOf}
use Rattle.state_table.specs.Sharing.{shared_core, GrowsBy}
use Rattle.state_table.specs.CoreViews.{item_of}
use Rattle.state_table.specs.declared.shared_sets.SharedItem.{SharedItem}
use Rattle.lrtable.proofs.Moved.{moved_none, moved_next, moved_all, no_core_good}
use Rattle.state_table.proofs.Sharing.{reads_item}
use Rattle.lrtable.proofs.closures.moved_set.Goals as goal

pub items-init : goal.items-init
items-init g c =
    let number = g.S.IndexStorage.number in
    let G = c.args.grm.now.grammar in
    moved_none number G (shared_core number c.args.set.now) (sym_of number c.args.symbol.now) c.empty-moved.result (no_core_good G.tokens (shared_core number c.empty-moved.result) c.empty-moved.ensures.core) c.empty-moved.ensures.within

pub move_one-requires-clause-production : goal.move_one-requires-clause-production
move_one-requires-clause-production g c =
    let number = g.S.IndexStorage.number in
    let G = c.args.grm.now.grammar in
    let s = c.args.set.now in
    let test = c.items-test.true in
    let len : c.len-k-end.result ≡ length s.entries.items = search rules in
    let lt : c.items.k < length s.entries.items = omega (arith, test, len) in
    let x = c.index-entry.result.now in
    let found = subst (λ (n : ℕ). c.index-looks.result.now ≡ get_or s.sets.items n c.index-looks.result.now) c.get.ensures c.index-looks.ensures in
    let h = reads_item number G.tokens s c.items.k x c.index-looks.result.now c.requires.fits.good c.requires.within lt c.index-entry.ensures found in
    let i : Item = record { production = number x.item.pidx.0; dot = number x.item.dot.0 } in
    subst (λ n. n < length G.productions) h.at.production (c.requires.fits.productions c.items.k i h.at.within)

pub move_one-requires-clause-core : goal.move_one-requires-clause-core
move_one-requires-clause-core g c =
    let number = g.S.IndexStorage.number in
    let G = c.args.grm.now.grammar in
    let s = c.args.set.now in
    let test = c.items-test.true in
    let len : c.len-k-end.result ≡ length s.entries.items = search rules in
    let lt : c.items.k < length s.entries.items = omega (arith, test, len) in
    let found = subst (λ (n : ℕ). c.index-looks.result.now ≡ get_or s.sets.items n c.index-looks.result.now) c.get.ensures c.index-looks.ensures in
    let h = reads_item number G.tokens s c.items.k c.index-entry.result.now c.index-looks.result.now c.requires.fits.good c.requires.within lt c.index-entry.ensures found in
    subst (λ n. IsCoreOf n (shared_core number c.items.moved)) (sym h.width) c.items.invariant.core

pub items-preserved : goal.items-preserved
items-preserved g c =
    let number = g.S.IndexStorage.number in
    let G = c.args.grm.now.grammar in
    let s = c.args.set.now in
    let X = sym_of number c.args.symbol.now in
    let test = c.items-test.true in
    let len : c.len-k-end.result ≡ length s.entries.items = search rules in
    let lt : c.items.k < length s.entries.items = omega (arith, test, len) in
    let x = c.index-entry.result.now in
    let bits = c.index-looks.result.now.bits in
    let p = number x.item.pidx.0 in
    let found = subst (λ (n : ℕ). c.index-looks.result.now ≡ get_or s.sets.items n c.index-looks.result.now) c.get.ensures c.index-looks.ensures in
    let h = reads_item number G.tokens s c.items.k x c.index-looks.result.now c.requires.fits.good c.requires.within lt c.index-entry.ensures found in
    let m = subst (λ d. GrowsBy number (length bits) (Goto G (SingleItem p d) X) (GotoLook G (OneLooks p d bits) X) c.items.moved c.move_one.new.moved) c.to_usize-dot.ensures.value c.in_ok-move_one.ensures in
    moved_next number G (shared_core number s) X c.items.k p (number x.item.dot.0) bits c.empty-moved.result c.items.moved c.move_one.new.moved h.at h.bits h.width c.items.invariant m

pub returns-clause-is : goal.returns-clause-is
returns-clause-is g c =
    let number = g.S.IndexStorage.number in
    let G = c.args.grm.now.grammar in
    let s = c.args.set.now in
    let done = c.items-test.false in
    let len : c.len-k-end.result ≡ length s.entries.items = search rules in
    let n = length-map s.entries.items (λ (e : SharedItem g.row.S.Denot). item_of number e.item) in
    moved_all number G (shared_core number s) (sym_of number c.args.symbol.now) c.items.k c.empty-moved.result c.items.moved c.requires.fits.good (omega (arith, done, len, n)) c.empty-moved.ensures.core c.items.invariant
