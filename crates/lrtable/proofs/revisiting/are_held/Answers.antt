use Rattle.std.proofs.Common.{◌≡◌, length, sym, ap, ◌∙◌, subst, arith}
use Rattle.std.specs.Prelude.{IsTrue}
use Rattle.std.proofs.lemmas.List.{length-map}
use Rattle.vob.specs.Packed.{Contents}
use Rattle.vob.specs.Sets.{is_set}
use Rattle.state_table.specs.Meeting.{rows_in}
use Rattle.lrtable.specs.MovedItems.{row_from}
use Rattle.state_table.specs.CoreViews.{item_of, items_of}
use Rattle.lrtable.specs.Revisits.{core_noted, IsMoved, AreHeld}
use Rattle.state_table.proofs.CoreSteps.{map_at, row_at}
use Rattle.state_table.proofs.ItemSets.{nought}
use Rattle.lrtable.proofs.Revisits.{held_none, held_more}
use Rattle.lrtable.proofs.revisiting.are_held.Goals as goal

pub items-init : goal.items-init
items-init g c =
    let number = g.S.IndexStorage.number in
    record { within = omega arith; held = held_none c.args.grm.now.grammar (core_noted number c.args.was.now c.args.rows.now) (items_of number c.args.core.now.items.items) (rows_in c.args.core.now.looks.items) }

pub index-looks-requires : goal.index-looks-requires
index-looks-requires g c =
    let n = length-map c.args.core.now.items.items (item_of g.S.IndexStorage.number) in
    let m = length-map c.args.core.now.looks.items (λ (v : Contents). v.bits) in
    let e = c.requires.core.count in
    let test = c.items-test.true in
    omega (arith, n, m, e, test)

pub source_behind-source-requires : goal.source_behind-source-requires
source_behind-source-requires g c =
    let number = g.S.IndexStorage.number in
    let xs = c.args.core.now.items.items in
    let n = length-map xs (item_of number) in
    let test = c.items-test.true in
    record {
      noted = c.requires.noted;
      moved = subst (IsMoved c.args.grm.now.grammar (core_noted number c.args.was.now c.args.rows.now)) (map_at (item_of number) xs c.items.k c.index-item.result.now nought (omega (arith, test)) c.index-item.ensures) (c.requires.moved c.items.k nought (omega (arith, test, n)));
    }

pub row-requires : goal.row-requires
row-requires g c =
    let w = c.source_behind-source.ensures.width in
    let e = c.start_prod.ensures.well_formed.end_token in
    omega (arith, w, e)

pub holds-requires : goal.holds-requires
holds-requires g c =
    let number = g.S.IndexStorage.number in
    let n = length-map c.args.core.now.items.items (item_of number) in
    let m = length-map c.args.core.now.looks.items (λ (v : Contents). v.bits) in
    let e = c.requires.core.count in
    let test = c.items-test.true in
    sym (ap length (row_at c.args.core.now.looks.items c.items.k c.index-looks.result.now (omega (arith, n, m, e, test)) c.index-looks.ensures)) ∙
    (c.requires.core.width c.items.k (omega (arith, n, m, e, test)) ∙ sym (ap length c.row.ensures ∙ c.source_behind-source.ensures.width))

pub items-preserved : goal.items-preserved
items-preserved g c =
    let number = g.S.IndexStorage.number in
    let xs = c.args.core.now.items.items in
    let n = length-map xs (item_of number) in
    let m = length-map c.args.core.now.looks.items (λ (v : Contents). v.bits) in
    let e = c.requires.core.count in
    let test = c.items-test.true in
    let x = c.index-item.result.now in
    let bits = row_from c.args.rows.now c.source_behind-source.result in
    let at = row_at c.args.core.now.looks.items c.items.k c.index-looks.result.now (omega (arith, n, m, e, test)) c.index-looks.ensures in
    record {
      within = omega (arith, test);
      held = held_more c.args.grm.now.grammar (core_noted number c.args.was.now c.args.rows.now) (items_of number xs) c.items.k (item_of number x) (rows_in c.args.core.now.looks.items) bits (omega (arith, test, n))
          (map_at (item_of number) xs c.items.k x (item_of number x) (omega (arith, test)) c.index-item.ensures) c.source_behind-source.ensures
          (λ t h. ap (λ l. is_set l t) at ∙ c.holds.ensures.holds.0 c.if-not-holds.false t (subst (λ l. IsTrue (is_set l t)) (sym c.row.ensures) h)) c.items.invariant.held;
    }

pub returns : goal.returns
returns g c = λ _.
    let number = g.S.IndexStorage.number in
    let xs = c.args.core.now.items.items in
    let done = c.items-test.false in
    let within = c.items.invariant.within in
    subst (λ n. AreHeld c.args.grm.now.grammar (core_noted number c.args.was.now c.args.rows.now) (items_of number xs) n (rows_in c.args.core.now.looks.items)) (let e : c.items.k ≡ length xs = omega (arith, done, within) in e) c.items.invariant.held
