use Rattle.std.proofs.Common.{Bool, List, length, map, arith, sym, ap, ◌∙◌}
use Rattle.std.proofs.lemmas.List.{length-map}
use Rattle.vob.specs.Packed.{Contents}
use Rattle.state_table.specs.Meeting.{row}
use Rattle.lrtable.specs.MovedItems.{set_of_moved}
use Rattle.state_table.specs.CoreViews.{item_of, core_of_set}
use Rattle.state_table.proofs.CoreSteps.{item_at, production_below}
use Rattle.lrtable.proofs.FreshSets.{none_of_core}
use Rattle.lrtable.proofs.MarkedSets.{keeps_same, keeps_next, symbol_sets_on}
use Rattle.lrtable.proofs.Moving.{items_begin, items_more, items_end}
use Rattle.lrtable.proofs.moves.move_core.Goals as goal

pub items-init : goal.items-init
items-init g c =
    let number = g.S.IndexStorage.number in
    let sets = map (set_of_moved number c.args.rows.now) c.args.sets.now.items in
    record {
      gains = items_begin c.args.grm.now.grammar (core_of_set number c.args.core.now) sets c.requires.sets.good;
      marks = keeps_same c.args.marks.now.bits sets;
    }

pub move_over-requires : goal.move_over-requires
move_over-requires g c =
    let number = g.S.IndexStorage.number in
    let G = c.args.grm.now.grammar in
    let seen = set_of_moved number c.args.rows.now in
    let core = core_of_set number c.args.core.now in
    let x = c.index-item.result.now in
    let n = length-map c.args.core.now.items.items (item_of number) in
    let m = length-map c.args.core.now.looks.items (λ (v : Contents). v.bits) in
    let e = c.requires.fits.good.count in
    let test = c.items-test.true in
    let at = item_at number c.args.core.now.items.items c.items.k x (omega (arith, test)) c.index-item.ensures in
    record {
      production = production_below number c.args.core.now.items.items c.items.k (length G.productions) x (omega (arith, test)) c.index-item.ensures c.requires.fits.productions;
      sets = symbol_sets_on c.requires.sets c.items.invariant.gains c.items.invariant.marks;
      width = ap (λ (r : List (List Bool)). length (row r c.items.k)) c.requires.own ∙ c.requires.fits.good.width c.items.k (omega (arith, n, m, e, test));
      fresh = none_of_core G core c.items.k (number x.pidx.0) (number x.dot.0) (map seen c.args.sets.now.items) (map seen c.items.sets.items) c.requires.fits.good at c.requires.fresh c.items.invariant.gains;
    }

pub items-preserved : goal.items-preserved
items-preserved g c =
    let number = g.S.IndexStorage.number in
    let G = c.args.grm.now.grammar in
    let seen = set_of_moved number c.args.rows.now in
    let test = c.items-test.true in
    let x = c.index-item.result.now in
    let bits = row c.args.rows.now.own c.items.k in
    record {
      gains = items_more G (core_of_set number c.args.core.now) c.items.k (number x.pidx.0) (number x.dot.0) bits (map seen c.args.sets.now.items) (map seen c.items.sets.items) (map seen c.move_over.new.sets.items)
          (item_at number c.args.core.now.items.items c.items.k x (omega (arith, test)) c.index-item.ensures) (ap (λ (r : List (List Bool)). row r c.items.k) (sym c.requires.own)) c.items.invariant.gains c.in_ok-move_over.ensures.gains;
      marks = keeps_next c.args.marks.now.bits (map seen c.args.sets.now.items) c.items.marks.bits (map seen c.items.sets.items) c.move_over.new.marks.bits (map seen c.move_over.new.sets.items) c.items.invariant.marks c.in_ok-move_over.ensures.marks;
    }

pub returns-clause-gains : goal.returns-clause-gains
returns-clause-gains g c =
    let number = g.S.IndexStorage.number in
    let seen = set_of_moved number c.args.rows.now in
    let n = length-map c.args.core.now.items.items (item_of number) in
    let done = c.items-test.false in
    items_end c.args.grm.now.grammar (core_of_set number c.args.core.now) c.items.k (map seen c.args.sets.now.items) (map seen c.items.sets.items) c.requires.fits.good (omega (arith, n, done)) c.items.invariant.gains
