use Rattle.std.proofs.Common.{map, set, refl, sym, ◌∙◌, subst, arith}
use Rattle.std.proofs.lemmas.List.{length-map, map-set}
use Rattle.cfg_numbered.specs.Symbols.{sym_of}
use Rattle.state_table.specs.Adding.{SingleItem, OneLooks}
use Rattle.lrtable.specs.Gaining.{Gains}
use Rattle.lrtable.specs.MovedItems.{HaveNone, row_from, set_of_moved}
use Rattle.lrtable.proofs.Exact.{dot_within}
use Rattle.lrtable.proofs.FreshSets.{fits_there, one_moved}
use Rattle.lrtable.proofs.MarkedSets.{keeps_one}
use Rattle.lrtable.proofs.Moving.{no_move}
use Rattle.lrtable.proofs.Ranks.{rank_below}
use Rattle.lrtable.proofs.moves.move_over.Goals as goal

pub dot_behind-requires-clause-dot : goal.dot_behind-requires-clause-dot
dot_behind-requires-clause-dot g c =
    let number = g.S.IndexStorage.number in
    dot_within c.args.grm.now.grammar (number c.args.item.now.pidx.0) c.to_usize-dot.result (sym_of number c.in-Some.symbol) c.in-Some.ensures

pub index_mut-set-requires : goal.index_mut-set-requires
index_mut-set-requires g c =
    let number = g.S.IndexStorage.number in
    let G = c.args.grm.now.grammar in
    let n = c.in-Some.ensures in
    let range = c.start_prod.ensures.well_formed.symbols (number c.args.item.now.pidx.0) c.to_usize-dot.result (sym_of number c.in-Some.symbol) n in
    let lt = rank_below G (sym_of number c.in-Some.symbol) range in
    let count = c.requires.sets.count in
    let m = length-map c.args.sets.now.items (set_of_moved number c.args.rows.now) in
    let r = c.rank_of-number.ensures in
    omega (arith, lt, count, m, r)

pub set-requires : goal.set-requires
set-requires g c =
    let number = g.S.IndexStorage.number in
    let G = c.args.grm.now.grammar in
    let n = c.in-Some.ensures in
    let range = c.start_prod.ensures.well_formed.symbols (number c.args.item.now.pidx.0) c.to_usize-dot.result (sym_of number c.in-Some.symbol) n in
    let lt = rank_below G (sym_of number c.in-Some.symbol) range in
    let wide = c.requires.sets.wide in
    let r = c.rank_of-number.ensures in
    omega (arith, lt, wide, r)

pub returns-in_ok-insert_moved-in-Some-clause-marks : goal.returns-in_ok-insert_moved-in-Some-clause-marks
returns-in_ok-insert_moved-in-Some-clause-marks g c =
    let number = g.S.IndexStorage.number in
    let G = c.args.grm.now.grammar in
    let seen = set_of_moved number c.args.rows.now in
    let n = c.in-Some.ensures in
    let range = c.start_prod.ensures.well_formed.symbols (number c.args.item.now.pidx.0) c.to_usize-dot.result (sym_of number c.in-Some.symbol) n in
    let lt = rank_below G (sym_of number c.in-Some.symbol) range in
    let wide = c.requires.sets.wide in
    let r = c.rank_of-number.ensures in
    let sets = c.args.sets.now.items in
    let k = c.rank_of-number.result in
    keeps_one c.args.marks.now.bits c.set.new.self.bits (map seen sets) (map seen (set sets k c.insert_moved.new.items)) k (seen c.insert_moved.new.items) (omega (arith, lt, wide, r)) c.set.ensures.bits (map-set seen sets k c.insert_moved.new.items)

pub insert_moved-requires : goal.insert_moved-requires
insert_moved-requires g c =
    let number = g.S.IndexStorage.number in
    let G = c.args.grm.now.grammar in
    let n = c.in-Some.ensures in
    let X = sym_of number c.in-Some.symbol in
    let range = c.start_prod.ensures.well_formed.symbols (number c.args.item.now.pidx.0) c.to_usize-dot.result X n in
    (fits_there number c.args.rows.now G c.args.sets.now.items c.rank_of-number.result c.index_mut-set.result.now (number c.args.item.now.pidx.0) c.to_usize-dot.result X range n c.rank_of-number.ensures (sym (length-map c.args.sets.now.items (set_of_moved number c.args.rows.now)) ∙ c.requires.sets.count) c.requires.sets.good c.index_mut-set.ensures.value).ascends

pub returns-in_ok-insert_moved-in-Some-clause-gains : goal.returns-in_ok-insert_moved-in-Some-clause-gains
returns-in_ok-insert_moved-in-Some-clause-gains g c =
    let number = g.S.IndexStorage.number in
    let G = c.args.grm.now.grammar in
    let seen = set_of_moved number c.args.rows.now in
    let sets = map seen c.args.sets.now.items in
    let n = c.in-Some.ensures in
    let X = sym_of number c.in-Some.symbol in
    let p = number c.args.item.now.pidx.0 in
    let dot = c.to_usize-dot.ensures.value in
    let range = c.start_prod.ensures.well_formed.symbols p c.to_usize-dot.result X n in
    let put = c.in_ok-insert_moved-in-Some.ensures in
    let fresh = subst (λ d. HaveNone G (SingleItem p d) sets) (sym dot) c.requires.fresh in
    subst (λ d. Gains G (SingleItem p d) (OneLooks p d (row_from c.args.rows.now c.args.source)) sets (map seen (set c.args.sets.now.items c.rank_of-number.result c.insert_moved.new.items))) dot
    (one_moved number c.args.rows.now G c.args.sets.now.items c.rank_of-number.result c.index_mut-set.result.now p c.to_usize-dot.result X range n c.rank_of-number.ensures (sym (length-map c.args.sets.now.items (set_of_moved number c.args.rows.now)) ∙ c.requires.sets.count) c.requires.sets.good c.index_mut-set.ensures.value
    c.insert_moved.new.items _ put.0 refl c.dot_behind.ensures c.requires.width fresh put.1 put.2)

pub returns-in-None-clause-gains : goal.returns-in-None-clause-gains
returns-in-None-clause-gains g c =
    let number = g.S.IndexStorage.number in
    let G = c.args.grm.now.grammar in
    let sets = map (set_of_moved number c.args.rows.now) c.args.sets.now.items in
    let p = number c.args.item.now.pidx.0 in
    subst (λ d. Gains G (SingleItem p d) (OneLooks p d (row_from c.args.rows.now c.args.source)) sets sets) c.to_usize-dot.ensures.value (no_move G p c.to_usize-dot.result _ sets c.requires.sets.good c.in-None.ensures)
